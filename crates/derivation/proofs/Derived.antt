-- What every derivation that steps reach keeps, and that what it exports is a valid file.
use Rattle.std.proofs.Common.{◌≡◌, ℕ, zero, suc, ◌+◌, ◌-◌, ◌*◌, ◌/◌, ◌%◌, ◌^◌, ◌<◌, ◌≤◌, max, Bool, true, false, ◌&&◌, List, [], ◌∷◌, ◌++◌, length, reverse, map, refl, sym, ap, subst, ◌∙◌, arith, slice_get, Option, Some, None, nat_lt, nat_le, if◌then◌else◌}
use Rattle.std.proofs.lemmas.List.{length-append, length-reverse, reverse-reverse}
use Rattle.std.proofs.lemmas.Bool.{and_parts, and_from, leb-true}
use Rattle.std.specs.List.{flat_map}
use Rattle.sorted_terms.specs.Tree.{boolean}
use Rattle.formulas.specs.declared.context.Context.{Context}
use Rattle.formulas.specs.Context.{hypotheses_of}
use Rattle.formulas.specs.Tree.{formula_tree, FormulaTree, bottom, holds, joined, quantified, implies}
use Rattle.formulas.specs.Sorts.{well_sorted, fits, size, depth}
use Rattle.proof_terms.specs.Tree.{ProofTree, hypothesis, lambda, application}
use Rattle.proof_terms.specs.Size.{proof_depth, proof_size}
use Rattle.type_checker.specs.Typing.{Has}
use Rattle.type_checker.specs.Place.{AreAssumable}
use Rattle.type_checker.proofs.Sides.{fits_left, fits_right}
use Rattle.cert_codec.specs.Tree.{NodeTree, skip, CertificateTree}
use Rattle.cert_codec.specs.Spelling.{is_built_formula, IsBuiltProof, IsBuiltNode, IsBuilt, HasShallowFormulas, IsShallowNode, IsShallow, number_bytes, spell_number, spell_term, spell_formula, spell_proof, spell_node, spell, Spells}
use Rattle.cert_check.specs.Proves.{Proves}
use Rattle.cert_check.specs.Valid.{IsFileOf, IsSmall, AreSorted}
use Rattle.cert_check.proofs.Built.{is_file, sorted_formula}
use Rattle.derivation.specs.declared.derivation.Progress.{Progress}
use Rattle.derivation.specs.declared.derivation.Progress.TheVariants.{Programming, Proving, Finished}
use Rattle.derivation.specs.Derivation.{progress_tree, ProgressTree, programming, proving, finished, DerivationTree, proof_hole, abstracted, assumption_size, tree_nodes, nodes, levels, certificate_of, left_size, left_of, right_of}
use Rattle.derivation.specs.Steps.{begun, IsWithin, GoesOn, Skips, Introduces, Finishes, Exports}
use Rattle.derivation.specs.Derived.{implied, AnswersFor, IsDerived, HasNoVariables}
use Rattle.derivation.specs.Laws.{ExportsAreValid}

-- a context has its oldest hypothesis first
pub oldest_first : (context : Context) → reverse (hypotheses_of context) ≡ map formula_tree context.hyps
oldest_first context = reverse-reverse (map formula_tree context.hyps)

map_length : {A B : Type 0} (f : A → B) (xs : List A) → length (map f xs) ≡ length xs
map_length f [] = refl
map_length f (x ∷ xs) = ap suc (map_length f xs)

pub hypotheses_count : (context : Context) → length (hypotheses_of context) ≡ length context.hyps
hypotheses_count context = length-reverse (map formula_tree context.hyps) ∙ map_length formula_tree context.hyps

-- ---- the tree of a finished proof

pub depth_abstracted : (hypotheses : List FormulaTree) (p : ProofTree) → proof_depth (abstracted hypotheses p) ≡ length hypotheses + proof_depth p
depth_abstracted [] p = omega arith
depth_abstracted (a ∷ hypotheses) p = omega (arith, depth_abstracted hypotheses (lambda a p))

pub size_abstracted : (hypotheses : List FormulaTree) (p : ProofTree) → proof_size (abstracted hypotheses p) ≡ assumption_size hypotheses + proof_size p
size_abstracted [] p = omega arith
size_abstracted (a ∷ hypotheses) p = omega (arith, size_abstracted hypotheses (lambda a p))

-- ---- what an implication gives its parts

fits_inner : (hypotheses : List FormulaTree) (a : FormulaTree) → fits (implied hypotheses a) ≡ true → fits a ≡ true
fits_inner [] a e = e
fits_inner (h ∷ hypotheses) a e = fits_right h a (fits_inner hypotheses (joined implies h a) e)

built_inner : (hypotheses : List FormulaTree) (a : FormulaTree) → is_built_formula (implied hypotheses a) ≡ true → is_built_formula a ≡ true
built_inner [] a e = e
built_inner (h ∷ hypotheses) a e = (and_parts (is_built_formula h) (is_built_formula a) (built_inner hypotheses (joined implies h a) e)).1

assumable_inner : (hypotheses : List FormulaTree) (a : FormulaTree) → fits (implied hypotheses a) ≡ true → is_built_formula (implied hypotheses a) ≡ true → AreAssumable [] [] hypotheses
assumable_inner [] a fit built = tt
assumable_inner (b ∷ hypotheses) a fit built =
    let sides = and_parts (is_built_formula b) (is_built_formula a) (built_inner hypotheses (joined implies b a) built) in
    (and_from (fits b) (well_sorted [] [] b) (fits_left b a (fits_inner hypotheses (joined implies b a) fit)) (sorted_formula [] [] b sides.0), assumable_inner hypotheses (joined implies b a) fit built)

-- the hypotheses of an open proof fit and are well-sorted
pub assumed_kept : (d : DerivationTree) (hypotheses : List FormulaTree) (goal : FormulaTree) → IsDerived d → d.progress ≡ proving hypotheses goal → AreAssumable [] [] hypotheses
assumed_kept d hypotheses goal h e =
    let answers : AnswersFor d.pre d.post (proving hypotheses goal) = subst (AnswersFor d.pre d.post) e h.answers in
    let built : is_built_formula (joined implies d.pre d.post) ≡ true = and_from (is_built_formula d.pre) (is_built_formula d.post) h.pre h.post in
    assumable_inner hypotheses goal (subst (λ x. fits x ≡ true) (sym answers.0) answers.1) (subst (λ x. is_built_formula x ≡ true) (sym answers.0) built)

-- the proof under its lambdas has the whole implication
closes : (hypotheses : List FormulaTree) (p : ProofTree) (a : FormulaTree) → fits (implied hypotheses a) ≡ true → is_built_formula (implied hypotheses a) ≡ true → Has [] [] hypotheses p a → Has [] [] [] (abstracted hypotheses p) (implied hypotheses a)
closes [] p a fit built h = h
closes (b ∷ hypotheses) p a fit built h =
    let inner : is_built_formula (joined implies b a) ≡ true = built_inner hypotheses (joined implies b a) built in
    closes hypotheses (lambda b p) (joined implies b a) fit built (fits_inner hypotheses (joined implies b a) fit, sorted_formula [] [] b (and_parts (is_built_formula b) (is_built_formula a) inner).0, a, h, refl)

built_abstracted : (hypotheses : List FormulaTree) (p : ProofTree) (a : FormulaTree) → is_built_formula (implied hypotheses a) ≡ true → IsBuiltProof p → IsBuiltProof (abstracted hypotheses p)
built_abstracted [] p a built h = h
built_abstracted (b ∷ hypotheses) p a built h =
    built_abstracted hypotheses (lambda b p) (joined implies b a) built ((and_parts (is_built_formula b) (is_built_formula a) (built_inner hypotheses (joined implies b a) built)).0, h)

-- a formula whose left side has a size is an implication
pub implication_is : (a : FormulaTree) (n : ℕ) → left_size a ≡ Some n → a ≡ joined implies (left_of a) (right_of a)
implication_is (joined implies a b) n e = refl
implication_is a n e = absurd (cc)

-- ---- steps keep it

pub begun_derived : (pre post : FormulaTree) → is_built_formula pre ≡ true → fits pre ≡ true → is_built_formula post ≡ true → fits post ≡ true → IsDerived (begun pre post)
unfolding fits
begun_derived pre post built fit built' fit' =
    let few : size pre ≤ 16384 = leb-true _ _ (and_parts (nat_le (size pre) 16384) (nat_le (depth pre) 256) fit).0 in
    let few' : size post ≤ 16384 = leb-true _ _ (and_parts (nat_le (size post) 16384) (nat_le (depth post) 256) fit').0 in
    record { pre = built; post = built'; within = record { few = omega arith; low = omega arith }; answers = tt }

-- a derivation that goes on is derived where it answers for the triple
went_derived : (d : DerivationTree) (progress : ProgressTree) (next : DerivationTree) → IsDerived d → GoesOn d progress next → AnswersFor d.pre d.post progress → IsDerived next
went_derived d progress next h g a =
    subst IsDerived (sym g.is) (record { pre = h.pre; post = h.post; within = subst IsWithin g.is g.within; answers = a })

pub skip_derived : (d : DerivationTree) (hole : ℕ) (next : DerivationTree) → IsDerived d → Skips d hole next → IsDerived next
skip_derived d hole next h s = went_derived d _ next h s.goes_on (refl, s.fitting, s.fitting)

-- what an open proof answers for
open_answers : (d : DerivationTree) (hypotheses : List FormulaTree) (goal : FormulaTree) → IsDerived d → d.progress ≡ proving hypotheses goal → AnswersFor d.pre d.post (proving hypotheses goal)
open_answers d hypotheses goal h e = subst (AnswersFor d.pre d.post) e h.answers

pub intro_derived : (d : DerivationTree) (hole : ℕ) (next : DerivationTree) → IsDerived d → Introduces d hole next → IsDerived next
intro_derived d hole next h s =
    let a = open_answers d s.hypotheses (joined implies s.left s.right) h s.open_is in
    went_derived d _ next h s.goes_on (a.0, a.1, fits_right s.left s.right a.2)

pub exact_derived : (d : DerivationTree) (hole : ℕ) (p : ProofTree) (next : DerivationTree) → IsDerived d → IsBuiltProof p → Finishes d hole p next → IsDerived next
exact_derived d hole p next h built s =
    let a = open_answers d s.hypotheses s.goal h s.open_is in
    let fit : fits (implied s.hypotheses s.goal) ≡ true = subst (λ (b : FormulaTree). fits b ≡ true) (sym a.0) a.1 in
    let built_all : is_built_formula (implied s.hypotheses s.goal) ≡ true = subst (λ (b : FormulaTree). is_built_formula b ≡ true) (sym a.0) (rw (h.pre, h.post) refl) in
    let proof : Has [] [] [] (abstracted s.hypotheses p) (joined implies d.pre d.post) = subst (λ (b : FormulaTree). Has [] [] [] (abstracted s.hypotheses p) b) a.0 (closes s.hypotheses p s.goal fit built_all s.proof) in
    went_derived d _ next h s.goes_on (proof, built_abstracted s.hypotheses p s.goal built_all built, a.1)

-- ---- steps of the code

pub left_size_is : (a : FormulaTree) (n : ℕ) → left_size a ≡ Some n → n ≡ size (left_of a)
left_size_is (joined implies a b) n e = let same : size a ≡ n = cc in sym same
left_size_is a n e = absurd (cc)

pub left_small : (a : FormulaTree) (n : ℕ) → left_size a ≡ Some n → fits a ≡ true → n ≤ 16384
unfolding fits
left_small (joined implies a b) n e fit =
    let same : size a ≡ n = cc in
    let few : size (joined implies a b) ≤ 16384 = leb-true _ _ (and_parts (nat_le (size (joined implies a b)) 16384) (nat_le (depth (joined implies a b)) 256) fit).0 in
    omega (arith, same, few)
left_small a n e fit = absurd (cc)

-- an `intro` within the limits keeps a derivation and its count of nodes
pub intro_kept : (d next : DerivationTree) (hole count assumed : ℕ) (hypotheses : List FormulaTree) (goal : FormulaTree) → IsDerived d → d.progress ≡ proving hypotheses goal → hole ≡ proof_hole hypotheses → left_size goal ≡ Some assumed → count ≡ nodes d
    → next ≡ record { pre = d.pre; post = d.post; progress = proving (left_of goal ∷ hypotheses) (right_of goal) } → count + 1 + assumed ≤ 200000 → length hypotheses + 2 ≤ 2048 → Introduces d hole next × IsDerived next × (count + 1 + assumed ≡ nodes next)
intro_kept d next hole count assumed hypotheses goal h open_is hole_is size_is count_is next_is few low =
    let was : nodes d ≡ size d.pre + size d.post + tree_nodes (proving hypotheses goal) = ap (λ (g : ProgressTree). size d.pre + size d.post + tree_nodes g) open_is in
    let is : count + 1 + assumed ≡ size d.pre + size d.post + tree_nodes (proving (left_of goal ∷ hypotheses) (right_of goal)) = omega (arith, was, count_is, left_size_is goal assumed size_is) in
    let same : nodes next ≡ size d.pre + size d.post + tree_nodes (proving (left_of goal ∷ hypotheses) (right_of goal)) = ap nodes next_is in
    let deep : levels next.progress ≡ levels (proving (left_of goal ∷ hypotheses) (right_of goal)) = ap (λ (x : DerivationTree). levels x.progress) next_is in
    let step : Introduces d hole next = record {
      hypotheses = hypotheses;
      left = left_of goal;
      right = right_of goal;
      open_is = open_is ∙ ap (λ (a : FormulaTree). proving hypotheses a) (implication_is goal assumed size_is);
      hole_is = hole_is;
      goes_on = record { is = next_is; within = record { few = omega (arith, same, is, few); low = omega (arith, deep, low) } };
    } in
    (step, intro_derived d hole next h step, is ∙ sym same)

-- an `exact` within the limits keeps a derivation and its count of nodes
pub exact_kept : (d next : DerivationTree) (hole count : ℕ) (p : ProofTree) (hypotheses : List FormulaTree) (goal : FormulaTree) → IsDerived d → IsBuiltProof p → d.progress ≡ proving hypotheses goal → hole ≡ proof_hole hypotheses → count ≡ nodes d → Has [] [] hypotheses p goal
    → next ≡ record { pre = d.pre; post = d.post; progress = finished (abstracted hypotheses p) } → count - 1 + proof_size p ≤ 200000 → length hypotheses + proof_depth p ≤ 2048 → Finishes d hole p next × IsDerived next × (count - 1 + proof_size p ≡ nodes next)
exact_kept d next hole count p hypotheses goal h built open_is hole_is count_is has next_is few low =
    let was : nodes d ≡ size d.pre + size d.post + tree_nodes (proving hypotheses goal) = ap (λ (g : ProgressTree). size d.pre + size d.post + tree_nodes g) open_is in
    let is : count - 1 + proof_size p ≡ size d.pre + size d.post + tree_nodes (finished (abstracted hypotheses p)) = omega (arith, was, count_is, size_abstracted hypotheses p) in
    let same : nodes next ≡ size d.pre + size d.post + tree_nodes (finished (abstracted hypotheses p)) = ap nodes next_is in
    let deep : levels next.progress ≡ proof_depth (abstracted hypotheses p) = ap (λ (x : DerivationTree). levels x.progress) next_is in
    let step : Finishes d hole p next = record {
      hypotheses = hypotheses;
      goal = goal;
      open_is = open_is;
      hole_is = hole_is;
      proof = has;
      goes_on = record { is = next_is; within = record { few = omega (arith, same, is, few); low = omega (arith, deep, depth_abstracted hypotheses p, low) } };
    } in
    (step, exact_derived d hole p next h built step, is ∙ sym same)

-- an `exact` that is taken is within the limits
pub exact_within : (d next : DerivationTree) (hole count : ℕ) (p : ProofTree) (hypotheses : List FormulaTree) (goal : FormulaTree) → d.progress ≡ proving hypotheses goal → count ≡ nodes d → Finishes d hole p next → (count - 1 + proof_size p ≤ 200000) × (length hypotheses + proof_depth p ≤ 2048)
exact_within d next hole count p hypotheses goal open_is count_is s =
    let whole : proving hypotheses goal ≡ proving s.hypotheses s.goal = sym open_is ∙ s.open_is in
    let same : hypotheses ≡ s.hypotheses = cc in
    let was : nodes d ≡ size d.pre + size d.post + tree_nodes (proving hypotheses goal) = ap (λ (g : ProgressTree). size d.pre + size d.post + tree_nodes g) open_is in
    let next_is : next ≡ record { pre = d.pre; post = d.post; progress = finished (abstracted hypotheses p) } = s.goes_on.is ∙ ap (λ (hs : List FormulaTree). record { pre = d.pre; post = d.post; progress = finished (abstracted hs p) }) (sym same) in
    let few : nodes next ≡ size d.pre + size d.post + tree_nodes (finished (abstracted hypotheses p)) = ap nodes next_is in
    let deep : levels next.progress ≡ proof_depth (abstracted hypotheses p) = ap (λ (x : DerivationTree). levels x.progress) next_is in (
      omega (arith, was, count_is, few, size_abstracted hypotheses p, s.goes_on.within.few),
      omega (arith, deep, depth_abstracted hypotheses p, s.goes_on.within.low),
    )

pub no_variables : (g : Progress) (p : ProofTree) → progress_tree g ≡ finished p → HasNoVariables g
no_variables Programming p e = tt
no_variables (Proving context goal) p e = absurd (cc)
no_variables (Finished q) p e = tt

-- ---- what is exported is valid

low_of : (a : FormulaTree) → fits a ≡ true → depth a ≤ 256
unfolding fits
low_of a e = leb-true _ _ (and_parts (nat_le (size a) 16384) (nat_le (depth a) 256) e).1

few_of : (a : FormulaTree) → fits a ≡ true → size a ≤ 16384
unfolding fits
few_of a e = leb-true _ _ (and_parts (nat_le (size a) 16384) (nat_le (depth a) 256) e).0

-- formulas of a typed proof are no deeper than formulas that fit
shallow_typed : (hypotheses : List FormulaTree) (p : ProofTree) (a : FormulaTree) → IsBuiltProof p → Has [] [] hypotheses p a → HasShallowFormulas p
shallow_typed hypotheses (hypothesis k) a built h = tt
shallow_typed hypotheses (lambda b p) a built h =
    let fit : fits (joined implies b h.2) ≡ true = subst (λ (c : FormulaTree). fits c ≡ true) h.4 h.0 in
    (low_of b (fits_left b h.2 fit), shallow_typed (b ∷ hypotheses) p h.2 built.1 h.3)
shallow_typed hypotheses (application p q) a built h = (shallow_typed hypotheses p (joined implies h.1 a) built.0 h.2, shallow_typed hypotheses q h.1 built.1 h.3)
shallow_typed hypotheses p a built h = absurd built

-- a node takes at most 20 bytes
number_short : (more n : ℕ) → length (number_bytes more n) ≤ suc more
unfolding number_bytes
number_short zero n = omega arith
number_short (suc more) n = by (number_short more (n / 128)) (nat_lt n 128) where
  by : length (number_bytes more (n / 128)) ≤ suc more → (t : Bool) → length (if t then n ∷ [] else (128 + n % 128) ∷ number_bytes more (n / 128)) ≤ suc (suc more)
  by ih true = omega arith
  by ih false = omega (arith, ih)

spelled_short : (n : ℕ) → length (spell_number n) ≤ 19
unfolding spell_number
spelled_short n = number_short 18 n

formula_short : (a : FormulaTree) → is_built_formula a ≡ true → length (spell_formula a) ≤ size a
formula_short bottom e = omega arith
formula_short (holds (boolean true)) e = omega arith
formula_short (holds (boolean false)) e = omega arith
formula_short (holds t) e = absurd (cc)
formula_short (joined implies a b) e =
    let parts = and_parts (is_built_formula a) (is_built_formula b) e in
    omega (arith, formula_short a parts.0, formula_short b parts.1, length-append (spell_formula a) (spell_formula b))
formula_short (joined c a b) e = absurd (cc)
formula_short (quantified q s a) e = absurd (cc)

proof_short : (p : ProofTree) → IsBuiltProof p → length (spell_proof p) ≤ 20 * proof_size p
proof_short (hypothesis k) h = omega (arith, spelled_short k)
proof_short (lambda a p) h = omega (arith, formula_short a h.0, proof_short p h.1, length-append (spell_formula a) (spell_proof p))
proof_short (application p q) h = omega (arith, proof_short p h.0, proof_short q h.1, length-append (spell_proof p) (spell_proof q))
proof_short p h = absurd h

finished_valid : (d : DerivationTree) (p : ProofTree) → IsDerived d → d.progress ≡ finished p → IsFileOf (certificate_of d p) (spell (certificate_of d p))
finished_valid d p h done =
    let a : AnswersFor d.pre d.post (finished p) = subst (AnswersFor d.pre d.post) done h.answers in
    let few : (size d.pre + size d.post) + tree_nodes (finished p) ≤ 200000 = subst (λ (g : ProgressTree). (size d.pre + size d.post) + tree_nodes g ≤ 200000) done h.within.few in
    let low : levels (finished p) ≤ 2048 = subst (λ (g : ProgressTree). levels g ≤ 2048) done h.within.low in
    let fit_pre : fits d.pre ≡ true = fits_left d.pre d.post a.2 in
    let fit_post : fits d.post ≡ true = fits_right d.pre d.post a.2 in
    let short : length (spell (certificate_of d p)) ≤ 4194304 =
    omega (
      arith,
      few,
      formula_short d.pre h.pre,
      formula_short d.post h.post,
      proof_short p a.1,
      length-append (spell_formula d.post) (spell_node (skip p)),
      length-append (spell_formula d.pre) (spell_formula d.post ++ spell_node (skip p)),
    ) in
    let spells : Spells (spell (certificate_of d p)) (certificate_of d p) = record {
      spelled = refl;
      built = record { names = refl; pre = h.pre; post = h.post; node = a.1 };
      shallow = record { pre = low_of d.pre fit_pre; post = low_of d.post fit_post; node = (low, shallow_typed [] p (joined implies d.pre d.post) a.1 a.0) };
    } in
    is_file (spell (certificate_of d p)) (certificate_of d p) short spells (record { pre = few_of d.pre fit_pre; post = few_of d.post fit_post; whole = omega (arith, few) }) a.0

pub exports_are_valid : ExportsAreValid
exports_are_valid d c h e = subst (λ (x : CertificateTree). IsFileOf x (spell x)) (sym e.is) (finished_valid d e.p h e.done)
