-- A proof within so many levels means a proof term of at most as many.
use Rattle.std.proofs.Common.{◌≡◌, ℕ, zero, suc, ◌+◌, ◌≤◌, max, Bool, true, false, List, [], ◌∷◌, arith, subst, Option, Some, None, if◌then◌else◌}
use Rattle.std.specs.Option.{option_map}
use Rattle.proof_terms.specs.Tree.{ProofTree}
use Rattle.proof_terms.specs.Tree as proof
use Rattle.proof_terms.specs.Size.{proof_depth}
use Rattle.ck_text.specs.declared.head.Head.{Head}
use Rattle.ck_text.specs.declared.head.Head.TheVariants as heads
use Rattle.ck_text.specs.Texts.{term_of, formula_of}
use Rattle.ck_text.specs.ProofTexts.{Kind, a_sort, a_number, a_term, a_formula, a_proof, kinds, ProofText, numbered, open_hole, headed, Arguments, last, more, Argument, of_sort, of_number, of_expression, of_proof, IsProofText, AreArguments, IsArgument, ProofScope, grown, expression_scope, Part, sort, number, term, formula, proof_term, built, built_of, parts_of, proof_of, meanings_of, part_of}
use Rattle.ck_text.specs.ProofReadingLaws.{ProofLevels}

abbrev part_depth : Part → ℕ
part_depth (proof_term p) = proof_depth p
part_depth part = 0

-- the greatest depth of a proof among the parts
abbrev parts_depth : List Part → ℕ
parts_depth [] = 0
parts_depth (part ∷ parts) = max (part_depth part) (parts_depth parts)

-- what is there has at most so many levels
abbrev IsWithin : {A : Type 0} → (A → ℕ) → Option A → ℕ → Type 0
IsWithin deep (Some a) n = deep a ≤ n
IsWithin deep None n = Unit {0}

built_depth : (h : Head) (parts : List Part) (n : ℕ) → 1 + parts_depth parts ≤ n → IsWithin proof_depth (built h parts) n
built_depth heads.Lam (formula a ∷ proof_term p ∷ []) n h = omega (arith, h)
built_depth heads.App (proof_term p ∷ proof_term q ∷ []) n h = omega (arith, h)
built_depth heads.Gen (sort s ∷ proof_term p ∷ []) n h = omega (arith, h)
built_depth heads.Inst (proof_term p ∷ term t ∷ []) n h = omega (arith, h)
built_depth heads.Pair (proof_term p ∷ proof_term q ∷ []) n h = omega (arith, h)
built_depth heads.First (proof_term p ∷ []) n h = omega (arith, h)
built_depth heads.Second (proof_term p ∷ []) n h = omega (arith, h)
built_depth heads.Left (formula b ∷ proof_term p ∷ []) n h = omega (arith, h)
built_depth heads.Right (formula a ∷ proof_term p ∷ []) n h = omega (arith, h)
built_depth heads.Cases (proof_term p ∷ proof_term q ∷ proof_term r ∷ []) n h = omega (arith, h)
built_depth heads.Pack (sort s ∷ formula a ∷ term t ∷ proof_term p ∷ []) n h = omega (arith, h)
built_depth heads.Unpack (proof_term p ∷ proof_term q ∷ []) n h = omega (arith, h)
built_depth heads.Absurd (formula a ∷ proof_term p ∷ []) n h = omega (arith, h)
built_depth heads.Stable (proof_term p ∷ []) n h = omega (arith, h)
built_depth heads.Refl (term t ∷ []) n h = omega (arith, h)
built_depth heads.Rewrite (formula a ∷ proof_term p ∷ proof_term q ∷ []) n h = omega (arith, h)
built_depth heads.Axiom (number i ∷ []) n h = omega (arith, h)
built_depth heads.Induct (formula a ∷ []) n h = omega (arith, h)
built_depth heads.Compute (term t ∷ []) n h = omega (arith, h)
built_depth heads.Ring (term s ∷ term t ∷ []) n h = omega (arith, h)
built_depth h parts n low = tt

built_of_depth : (h : Head) (parts : Option (List Part)) (m n : ℕ) → 1 + m ≤ n → IsWithin parts_depth parts m → IsWithin proof_depth (built_of h parts) n
built_of_depth h (Some parts) m n low k = built_depth h parts n (omega (arith, low, k))
built_of_depth h None m n low k = tt

parts_of_depth : (part : Option Part) (parts : Option (List Part)) (n : ℕ) → IsWithin part_depth part n → IsWithin parts_depth parts n → IsWithin parts_depth (parts_of part parts) n
parts_of_depth (Some part) (Some parts) n h k = omega (arith, h, k)
parts_of_depth (Some part) None n h k = tt
parts_of_depth None parts n h k = tt

map_depth : {A : Type 0} (f : A → Part) (deep : A → ℕ) → ((a : A) → part_depth (f a) ≤ deep a) → (o : Option A) (n : ℕ) → IsWithin deep o n → IsWithin part_depth (option_map f o) n
map_depth f deep less (Some a) n h = omega (arith, h, less a)
map_depth f deep less None n h = tt

-- terms and formulas have no proofs in them
no_depth : {A : Type 0} (f : A → Part) → ((a : A) → part_depth (f a) ≤ 0) → (o : Option A) (n : ℕ) → IsWithin part_depth (option_map f o) n
no_depth f none (Some a) n = omega (arith, none a)
no_depth f none None n = tt

number_depth : (b : Bool) (k n : ℕ) → 1 ≤ n → IsWithin proof_depth (if b then Some (proof.hypothesis k) else None) n
number_depth true k n h = h
number_depth false k n h = tt

module _ (limit proofs : ℕ) (holes : Bool) where
  mutual
    proof_within : (p : ProofText) (around n : ℕ) (scope : ProofScope) → around + n ≡ proofs → IsProofText limit proofs holes around p → IsWithin proof_depth (proof_of scope p) n
    proof_within (numbered k) around n scope e h = number_depth _ _ n (omega (arith, e, h.0))
    proof_within (open_hole k) around n scope e h = omega (arith, e, h.0)
    proof_within (headed g arguments) around zero scope e h = absurd (omega (arith, e, h.0))
    proof_within (headed g arguments) around (suc n) scope e h =
        built_of_depth g (meanings_of scope (kinds g) arguments) n (suc n) (omega arith) (arguments_within arguments (suc around) n scope (kinds g) (omega (arith, e)) h.1)

    arguments_within : (others : Arguments) (around n : ℕ) (scope : ProofScope) (ks : List Kind) → around + n ≡ proofs → AreArguments limit proofs holes around ks others
        → IsWithin parts_depth (meanings_of scope ks others) n
    arguments_within (last a) around n scope [] e h = absurd h
    arguments_within (last a) around n scope (k ∷ ks) e h = parts_of_depth (part_of scope k a) (Some []) n (argument_within a around n scope k e h.1) (omega arith)
    arguments_within (more a others) around n scope [] e h = absurd h
    arguments_within (more a others) around n scope (k ∷ ks) e h =
        parts_of_depth (part_of scope k a) (meanings_of scope ks others) n (argument_within a around n scope k e h.0) (arguments_within others around n scope ks e h.1)

    argument_within : (a : Argument) (around n : ℕ) (scope : ProofScope) (k : Kind) → around + n ≡ proofs → IsArgument limit proofs holes around k a → IsWithin part_depth (part_of scope k a) n
    argument_within (of_sort s) around n scope a_sort e h = omega arith
    argument_within (of_number m) around n scope a_number e h = omega arith
    argument_within (of_expression a) around n scope a_term e h = no_depth term (λ t. omega arith) (term_of (expression_scope 0 scope) a) n
    argument_within (of_expression a) around n scope (a_formula v) e h = no_depth formula (λ t. omega arith) (formula_of (expression_scope v scope) a) n
    argument_within (of_proof p) around n scope (a_proof v g) e h =
        map_depth proof_term proof_depth (λ p. omega arith) (proof_of (grown v g scope) p) n (proof_within p around n (grown v g scope) e h)
    argument_within a around n scope k e h = absurd h

pub proof_levels : ProofLevels
proof_levels limit proofs holes scope p tree h e = subst (λ o. IsWithin proof_depth o proofs) e (proof_within limit proofs holes p 0 proofs scope (omega arith) h)
