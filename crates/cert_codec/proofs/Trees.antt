-- Formulas, proofs, nodes and certificates are read as they are spelled, and no other bytes are.
use Rattle.std.proofs.Common.{◌≡◌, ℕ, zero, suc, ◌+◌, ◌<◌, Bool, true, false, List, [], ◌∷◌, ◌++◌, length, drop, replicate, refl, sym, ap, subst, ◌∙◌, arith, inl, inr, ◌⊎◌, ◌==◌}
use Rattle.std.specs.Prelude.{nat_le}
use Rattle.std.proofs.lemmas.Bool.{le-leb, lt-leb, and_parts, and_from}
use Rattle.std.proofs.lemmas.List.{length-append, length-replicate}
use Rattle.sorted_terms.specs.Tree.{TermTree, boolean}
use Rattle.formulas.specs.Tree.{implies, FormulaTree, bottom, holds, joined, quantified}
use Rattle.proof_terms.specs.Tree.{ProofTree, hypothesis, lambda, application}
use Rattle.cert_codec.specs.Tree.{NodeTree, skip, CertificateTree}
use Rattle.cert_codec.specs.Spelling.{spell_number, spell_term, spell_formula, spell_proof, spell_node, spell, is_built_term, is_built_formula, IsBuiltProof, IsBuiltNode, IsBuilt}
use Rattle.cert_codec.specs.Front.{term_within, formula_within, proof_within, node_within, certificate_within}
use Rattle.cert_codec.specs.Reading.{Read, after, term_at, implication, formula_at, proof_at, node_at, certificate_at, with_no_names, paired, same}
use Rattle.cert_codec.proofs.Readers.{Laws, like, give_laws, closed_laws, both_laws, after_laws, choose_laws, IsBoth, IsAfter, StartsSo}
use Rattle.cert_codec.proofs.Numbers.{IsNumber, number_laws}

-- a tag before the same tree
same_laws : {A : Type 0} (level : Bool) → level ≡ true → (tag : ℕ) {G : A → Type 0} {sp : A → List ℕ} {lv : A → List Bool} (sp' : A → List ℕ) (lv' : A → List Bool) {read : List ℕ → Read A} → Laws G sp lv read → ((a : A) → G a → sp' a ≡ tag ∷ sp a) → ((a : A) → G a → lv' a ≡ level ∷ lv a) → Laws G sp' lv' (after tag same read)
same_laws level low tag {G} sp' lv' l words heights =
    like (after_laws level low tag same sp' lv' l words heights) (λ a h. subst G (sym h.1) h.2) (λ a g. (a, refl, g)) (λ a h. refl) (λ a h. refl)

-- ---- terms

abbrev IsTerm : TermTree → Type 0
IsTerm t = is_built_term t ≡ true

abbrev IsFalse : TermTree → Type 0
IsFalse = IsAfter (λ _. boolean false) (λ (x : Unit {0}). x ≡ tt)

abbrev IsTrueTerm : TermTree → Type 0
IsTrueTerm = IsAfter (λ _. boolean true) (λ (x : Unit {0}). x ≡ tt)

term_from : (t : TermTree) → IsTerm t → IsFalse t ⊎ IsTrueTerm t
term_from (boolean false) e = inl (tt, refl, refl)
term_from (boolean true) e = inr (tt, refl, refl)
term_from t e = absurd (cc)

term_to : (t : TermTree) → IsFalse t ⊎ IsTrueTerm t → IsTerm t
term_to t (inl h) = rw (h.1) refl
term_to t (inr h) = rw (h.1) refl

term_even : (level : ℕ) (t : TermTree) → IsTerm t → length (term_within level t) ≡ length (spell_term t)
term_even level (boolean false) e = refl
term_even level (boolean true) e = refl
term_even level t e = absurd (cc)

-- the tag's byte is the first
first_of_term : (level : ℕ) (t : TermTree) → IsTerm t → (more : List Bool) × (term_within level t ≡ nat_le level 256 ∷ more)
first_of_term level (boolean false) e = ([], refl)
first_of_term level (boolean true) e = ([], refl)
first_of_term level t e = absurd (cc)

-- the first level that is too deep
too_deep_at : (bound level : ℕ) → bound < level → nat_le level bound ≡ false
too_deep_at bound level lt = lt-leb level bound lt

term_laws : (left level : ℕ) → level + left ≡ 257 → Laws IsTerm spell_term (term_within level) (term_at left)
unfolding term_at
term_laws zero level e =
    closed_laws IsTerm spell_term (term_within level) (boolean true) refl (term_even level)
    (λ t h. let f = first_of_term level t h in (f.0, f.1 ∙ ap (λ w. w ∷ f.0) (too_deep_at 256 level (omega (arith, e)))))
term_laws (suc left) level e =
    let low : nat_le level 256 ≡ true = le-leb level 256 (omega (arith, e)) in
    let false_laws = after_laws (nat_le level 256) low 0x17 (λ _. boolean false) spell_term (term_within level) (give_laws {A = Unit {0}} tt) (λ a g. refl) (λ a g. refl) in
    let true_laws = after_laws (nat_le level 256) low 0x18 (λ _. boolean true) spell_term (term_within level) (give_laws {A = Unit {0}} tt) (λ a g. refl) (λ a g. refl) in
    like (choose_laws (λ x. x == 0x17) false_laws true_laws (λ a h. (0x17, [], ap spell_term h.1, refl)) (λ a h. (0x18, [], ap spell_term h.1, refl))) term_to term_from (λ a h. refl) (λ a h. refl)

-- ---- formulas

abbrev pub IsFormula : FormulaTree → Type 0
IsFormula a = is_built_formula a ≡ true

abbrev IsBottom : FormulaTree → Type 0
IsBottom = IsAfter (λ _. bottom) (λ (x : Unit {0}). x ≡ tt)

abbrev IsHeld : FormulaTree → Type 0
IsHeld = IsAfter (λ t. holds t) IsTerm

abbrev IsImplication : FormulaTree → Type 0
IsImplication = IsBoth implication IsFormula IsFormula

formula_from : (a : FormulaTree) → IsFormula a → IsBottom a ⊎ (IsHeld a ⊎ IsImplication a)
formula_from bottom e = inl (tt, refl, refl)
formula_from (holds t) e = inr (inl (t, refl, e))
formula_from (joined implies a b) e = let p = and_parts _ _ e in inr (inr (a, b, refl, p.0, p.1))
formula_from a e = absurd (cc)

formula_to : (a : FormulaTree) → IsBottom a ⊎ (IsHeld a ⊎ IsImplication a) → IsFormula a
formula_to a (inl h) = rw (h.1) refl
formula_to a (inr (inl h)) = subst IsFormula (sym h.1) h.2
formula_to a (inr (inr h)) = subst IsFormula (sym h.2) (and_from _ _ h.3 h.4)

formula_even : (level : ℕ) (a : FormulaTree) → IsFormula a → length (formula_within level a) ≡ length (spell_formula a)
formula_even level bottom e = refl
formula_even level (holds t) e = ap suc (term_even (suc level) t e)
formula_even level (joined implies a b) e =
    let p = and_parts _ _ e in
    ap suc (length-append (formula_within (suc level) a) (formula_within (suc level) b) ∙ (λ i. formula_even (suc level) a p.0 i + formula_even (suc level) b p.1 i) ∙ sym (length-append (spell_formula a) (spell_formula b)))
formula_even level a e = absurd (cc)

first_of_formula : (level : ℕ) (a : FormulaTree) → (more : List Bool) × (formula_within level a ≡ nat_le level 256 ∷ more)
first_of_formula level bottom = ([], refl)
first_of_formula level (holds t) = (term_within (suc level) t, refl)
first_of_formula level (joined c a b) = (formula_within (suc level) a ++ formula_within (suc level) b, refl)
first_of_formula level (quantified q s a) = (nat_le level 256 ∷ formula_within (suc level) a, refl)

starts_held : StartsSo (λ x. x == 0x30) false spell_formula (λ a. IsHeld a ⊎ IsImplication a)
starts_held a (inl h) = (0x31, spell_term h.0, ap spell_formula h.1, refl)
starts_held a (inr h) = (0x32, spell_formula h.0 ++ spell_formula h.1, ap spell_formula h.2, refl)

formula_laws : (left level : ℕ) → level + left ≡ 257 → Laws IsFormula spell_formula (formula_within level) (formula_at left)
unfolding formula_at
formula_laws zero level e =
    closed_laws IsFormula spell_formula (formula_within level) bottom refl (formula_even level)
    (λ a h. let f = first_of_formula level a in (f.0, f.1 ∙ ap (λ w. w ∷ f.0) (too_deep_at 256 level (omega (arith, e)))))
formula_laws (suc left) level e =
    let low : nat_le level 256 ≡ true = le-leb level 256 (omega (arith, e)) in
    let next : suc level + left ≡ 257 = omega (arith, e) in
    let bottom_laws = after_laws (nat_le level 256) low 0x30 (λ _. bottom) spell_formula (formula_within level) (give_laws {A = Unit {0}} tt) (λ a g. refl) (λ a g. refl) in
    let held_laws = after_laws (nat_le level 256) low 0x31 (λ t. holds t) spell_formula (formula_within level) (term_laws left (suc level) next) (λ a g. refl) (λ a g. refl) in
    let part_laws = formula_laws left (suc level) next in
    let fields_laws = both_laws implication (λ a. drop 1 (spell_formula a)) (λ a. drop 1 (formula_within level a)) part_laws part_laws (λ a b g h. refl) (λ a b g h. refl) in
    let implication_laws = same_laws (nat_le level 256) low 0x32 spell_formula (formula_within level) fields_laws
    (λ a g. subst (λ x. spell_formula x ≡ 0x32 ∷ drop 1 (spell_formula x)) (sym g.2) refl)
    (λ a g. subst (λ x. formula_within level x ≡ nat_le level 256 ∷ drop 1 (formula_within level x)) (sym g.2) refl) in
    let later_laws = choose_laws (λ x. x == 0x31) held_laws implication_laws (λ a h. (0x31, spell_term h.0, ap spell_formula h.1, refl)) (λ a h. (0x32, spell_formula h.0 ++ spell_formula h.1, ap spell_formula h.2, refl)) in
    like (choose_laws (λ x. x == 0x30) bottom_laws later_laws (λ a h. (0x30, [], ap spell_formula h.1, refl)) starts_held) formula_to formula_from (λ a h. refl) (λ a h. refl)

-- ---- proofs

abbrev IsHypothesis : ProofTree → Type 0
IsHypothesis = IsAfter hypothesis IsNumber

abbrev IsLambda : ProofTree → Type 0
IsLambda = IsBoth lambda IsFormula IsBuiltProof

abbrev IsApplication : ProofTree → Type 0
IsApplication = IsBoth application IsBuiltProof IsBuiltProof

proof_from : (p : ProofTree) → IsBuiltProof p → IsHypothesis p ⊎ (IsLambda p ⊎ IsApplication p)
proof_from (hypothesis k) h = inl (k, refl, h)
proof_from (lambda a p) h = inr (inl (a, p, refl, h.0, h.1))
proof_from (application p q) h = inr (inr (p, q, refl, h.0, h.1))
proof_from p h = absurd h

proof_to : (p : ProofTree) → IsHypothesis p ⊎ (IsLambda p ⊎ IsApplication p) → IsBuiltProof p
proof_to p (inl h) = subst IsBuiltProof (sym h.1) h.2
proof_to p (inr (inl h)) = subst IsBuiltProof (sym h.2) (h.3, h.4)
proof_to p (inr (inr h)) = subst IsBuiltProof (sym h.2) (h.3, h.4)

pub proof_even : (level : ℕ) (p : ProofTree) → IsBuiltProof p → length (proof_within level p) ≡ length (spell_proof p)
proof_even level (hypothesis k) h = length-replicate (suc (length (spell_number k))) (nat_le level 2048)
proof_even level (lambda a p) h =
    ap suc (length-append (formula_within 1 a) (proof_within (suc level) p) ∙ (λ i. formula_even 1 a h.0 i + proof_even (suc level) p h.1 i) ∙ sym (length-append (spell_formula a) (spell_proof p)))
proof_even level (application p q) h =
    ap suc (length-append (proof_within (suc level) p) (proof_within (suc level) q) ∙ (λ i. proof_even (suc level) p h.0 i + proof_even (suc level) q h.1 i) ∙ sym (length-append (spell_proof p) (spell_proof q)))
proof_even level p h = absurd h

first_of_proof : (level : ℕ) (p : ProofTree) → IsBuiltProof p → (more : List Bool) × (proof_within level p ≡ nat_le level 2048 ∷ more)
first_of_proof level (hypothesis k) h = (replicate (length (spell_number k)) (nat_le level 2048), refl)
first_of_proof level (lambda a p) h = (formula_within 1 a ++ proof_within (suc level) p, refl)
first_of_proof level (application p q) h = (proof_within (suc level) p ++ proof_within (suc level) q, refl)
first_of_proof level p h = absurd h

starts_compound : StartsSo (λ x. x == 0x40) false spell_proof (λ p. IsLambda p ⊎ IsApplication p)
starts_compound p (inl h) = (0x41, spell_formula h.0 ++ spell_proof h.1, ap spell_proof h.2, refl)
starts_compound p (inr h) = (0x42, spell_proof h.0 ++ spell_proof h.1, ap spell_proof h.2, refl)

proof_laws : (left level : ℕ) → level + left ≡ 2049 → Laws IsBuiltProof spell_proof (proof_within level) (proof_at left)
unfolding proof_at
proof_laws zero level e =
    closed_laws IsBuiltProof spell_proof (proof_within level) (hypothesis 0) (omega arith) (proof_even level)
    (λ p h. let f = first_of_proof level p h in (f.0, f.1 ∙ ap (λ w. w ∷ f.0) (too_deep_at 2048 level (omega (arith, e)))))
proof_laws (suc left) level e =
    let low : nat_le level 2048 ≡ true = le-leb level 2048 (omega (arith, e)) in
    let part_laws = proof_laws left (suc level) (omega (arith, e)) in
    let hypothesis_laws = after_laws (nat_le level 2048) low 0x40 hypothesis spell_proof (proof_within level) (number_laws (nat_le level 2048) low) (λ a g. refl) (λ a g. refl) in
    let lambda_fields = both_laws lambda (λ p. drop 1 (spell_proof p)) (λ p. drop 1 (proof_within level p)) (formula_laws 256 1 refl) part_laws (λ a p g h. refl) (λ a p g h. refl) in
    let lambda_laws = same_laws (nat_le level 2048) low 0x41 spell_proof (proof_within level) lambda_fields
    (λ p g. subst (λ x. spell_proof x ≡ 0x41 ∷ drop 1 (spell_proof x)) (sym g.2) refl)
    (λ p g. subst (λ x. proof_within level x ≡ nat_le level 2048 ∷ drop 1 (proof_within level x)) (sym g.2) refl) in
    let application_fields = both_laws application (λ p. drop 1 (spell_proof p)) (λ p. drop 1 (proof_within level p)) part_laws part_laws (λ p q g h. refl) (λ p q g h. refl) in
    let application_laws = same_laws (nat_le level 2048) low 0x42 spell_proof (proof_within level) application_fields
    (λ p g. subst (λ x. spell_proof x ≡ 0x42 ∷ drop 1 (spell_proof x)) (sym g.2) refl)
    (λ p g. subst (λ x. proof_within level x ≡ nat_le level 2048 ∷ drop 1 (proof_within level x)) (sym g.2) refl) in
    let later_laws = choose_laws (λ x. x == 0x41) lambda_laws application_laws (λ p h. (0x41, spell_formula h.0 ++ spell_proof h.1, ap spell_proof h.2, refl)) (λ p h. (0x42, spell_proof h.0 ++ spell_proof h.1, ap spell_proof h.2, refl)) in
    like (choose_laws (λ x. x == 0x40) hypothesis_laws later_laws (λ p h. (0x40, spell_number h.0, ap spell_proof h.1, refl)) starts_compound) proof_to proof_from (λ p h. refl) (λ p h. refl)

-- ---- nodes and certificates

node_to : (n : NodeTree) → IsAfter skip IsBuiltProof n → IsBuiltNode n
node_to n h = subst IsBuiltNode (sym h.1) h.2

node_from : (n : NodeTree) → IsBuiltNode n → IsAfter skip IsBuiltProof n
node_from (skip p) h = (p, refl, h)

node_laws : Laws IsBuiltNode spell_node node_within node_at
unfolding node_at
node_laws = like (after_laws true refl 0x60 skip spell_node node_within (proof_laws 2048 1 refl) (λ p g. refl) (λ p g. refl)) node_to node_from (λ n h. refl) (λ n h. refl)

abbrev IsBody : CertificateTree → Type 0
IsBody = IsBoth with_no_names IsFormula (IsBoth paired IsFormula IsBuiltNode)

-- what follows the count of names
abbrev spell_body : CertificateTree → List ℕ
spell_body c = spell_formula c.pre ++ (spell_formula c.post ++ spell_node c.node)

abbrev body_within : CertificateTree → List Bool
body_within c = formula_within 1 c.pre ++ (formula_within 1 c.post ++ node_within c.node)

body_to : (c : CertificateTree) → IsBody c → IsBuilt c
body_to c h =
    subst IsBuilt (sym h.2) (record {
      names = refl;
      pre = h.3;
      post = subst IsFormula (sym (ap (λ (x : FormulaTree × NodeTree). x.0) h.4.2)) h.4.3;
      node = subst IsBuiltNode (sym (ap (λ (x : FormulaTree × NodeTree). x.1) h.4.2)) h.4.4;
    })

body_from : (c : CertificateTree) → IsBuilt c → IsBody c
body_from c h = (c.pre, (c.post, c.node), (λ i. record { names = h.names i; pre = c.pre; post = c.post; node = c.node }), h.pre, (c.post, c.node, refl, h.post, h.node))

spelled_so : (c : CertificateTree) → IsBuilt c → spell c ≡ 0x43 ∷ 0x4B ∷ 0x54 ∷ 0x31 ∷ 0 ∷ spell_body c
spelled_so c h = rw (h.names) refl

within_so : (c : CertificateTree) → IsBuilt c → certificate_within c ≡ true ∷ true ∷ true ∷ true ∷ true ∷ body_within c
within_so c h = rw (h.names) refl

pub certificate_laws : Laws IsBuilt spell certificate_within certificate_at
unfolding certificate_at
certificate_laws =
    let parts_laws = both_laws paired (λ (x : FormulaTree × NodeTree). spell_formula x.0 ++ spell_node x.1) (λ x. formula_within 1 x.0 ++ node_within x.1) (formula_laws 256 1 refl) node_laws (λ a n g h. refl) (λ a n g h. refl) in
    let body_laws = both_laws with_no_names spell_body body_within (formula_laws 256 1 refl) parts_laws (λ a x g h. refl) (λ a x g h. refl) in
    let count_laws = same_laws true refl 0 (λ c. 0 ∷ spell_body c) (λ c. true ∷ body_within c) body_laws (λ c g. refl) (λ c g. refl) in
    let fourth_laws = same_laws true refl 0x31 (λ c. 0x31 ∷ 0 ∷ spell_body c) (λ c. true ∷ true ∷ body_within c) count_laws (λ c g. refl) (λ c g. refl) in
    let third_laws = same_laws true refl 0x54 (λ c. 0x54 ∷ 0x31 ∷ 0 ∷ spell_body c) (λ c. true ∷ true ∷ true ∷ body_within c) fourth_laws (λ c g. refl) (λ c g. refl) in
    let second_laws = same_laws true refl 0x4B (λ c. 0x4B ∷ 0x54 ∷ 0x31 ∷ 0 ∷ spell_body c) (λ c. true ∷ true ∷ true ∷ true ∷ body_within c) third_laws (λ c g. refl) (λ c g. refl) in
    let first_laws = same_laws true refl 0x43 (λ c. 0x43 ∷ 0x4B ∷ 0x54 ∷ 0x31 ∷ 0 ∷ spell_body c) (λ c. true ∷ true ∷ true ∷ true ∷ true ∷ body_within c) second_laws (λ c g. refl) (λ c g. refl) in
    like first_laws body_to body_from (λ c h. spelled_so c (body_to c h)) (λ c h. within_so c (body_to c h))
