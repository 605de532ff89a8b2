-- What is kept of a proof: where nothing in it is unknown and nothing too deep, the proof term that it means.
use Rattle.std.proofs.Common.{◌≡◌, ℕ, suc, ◌+◌, ◌-◌, ◌≤◌, Bool, true, false, List, [], ◌∷◌, length, refl, ap, ap₂, ◌∙◌, Option, Some, None, nat_lt, if◌then◌else◌}
use Rattle.std.specs.Option.{option_map}
use Rattle.std.proofs.lemmas.Bool.{ltb-false}
use Rattle.proof_terms.specs.Tree.{ProofTree}
use Rattle.proof_terms.specs.Tree as proof
use Rattle.ck_text.specs.declared.head.Head.{Head}
use Rattle.ck_text.specs.Texts.{Text, IsText, Bindings, first_of, term_of, formula_of}
use Rattle.ck_text.specs.Reading.{text_levels, Tree, of_term, of_formula}
use Rattle.ck_text.specs.Items.{as_term, as_formula}
use Rattle.ck_text.specs.ProofTexts.{Kind, a_sort, a_number, a_term, a_formula, a_proof, kinds, ProofText, numbered, open_hole, headed, Arguments, last, more, Argument, of_sort, of_number, of_expression, of_proof, argument_tokens, IsProofText, AreArguments, IsArgument, ProofScope, grown, expression_scope, Part, sort, number, term, formula, proof_term, built, built_of, proof_of, meanings_of, part_of, too_deep, deep_at, deep_among, deep_in}
use Rattle.ck_text.specs.ProofMachine.{asks_term}
use Rattle.ck_text.specs.ProofItems.{scope_in, bindings_in, expression_part, kept_proof, numbered_tree}
use Rattle.ck_text.proofs.Shown.{item_of}
use Rattle.ck_text.proofs.Outcomes.{asked_kept}
use Rattle.ck_text.proofs.ProofKeeping.{some_map}
use Rattle.ck_text.proofs.ProofMeanings.{parts_are}

module _ (most : ℕ) where
  abbrev mutual
    -- what is kept of a proof in a scope
    pub tree_kept : ProofScope → ProofText → ProofTree
    tree_kept scope (numbered k) = numbered_tree scope k
    tree_kept scope (open_hole k) = proof.hole k
    tree_kept scope (headed h arguments) = kept_proof (built h (parts_kept scope (kinds h) arguments))

    pub parts_kept : ProofScope → List Kind → Arguments → List Part
    parts_kept scope [] arguments = []
    parts_kept scope (k ∷ ks) (last a) = part_kept scope k a ∷ []
    parts_kept scope (k ∷ ks) (more a others) = part_kept scope k a ∷ parts_kept scope ks others

    -- what is kept of an argument of a rule in a scope, where that kind is wanted
    pub part_kept : ProofScope → Kind → Argument → Part
    part_kept scope k (of_sort s) = sort s
    part_kept scope k (of_number n) = number n
    part_kept scope k (of_expression a) = expression_part (asks_term k) (item_of most (bindings_in (Some k) scope) a)
    part_kept scope k (of_proof p) = proof_term (tree_kept (scope_in (Some k) scope) p)

-- # Small steps

first_is_none : {A : Type 0} (o p : Option A) → first_of o p ≡ None → (o ≡ None) × (p ≡ None)
first_is_none (Some a) p e = absurd (cc)
first_is_none None p e = (refl, e)

numbered_kept : (b : Bool) (k : ℕ) (tree : ProofTree) → (if b then Some (proof.hypothesis k) else None) ≡ Some tree → proof.hypothesis (if b then k else 0) ≡ tree
numbered_kept true k tree e = cc
numbered_kept false k tree e = absurd (cc)

headed_kept : (h : Head) (kept : List Part) (o : Option (List Part)) (tree : ProofTree) → ((parts : List Part) → o ≡ Some parts → kept ≡ parts) → built_of h o ≡ Some tree → kept_proof (built h kept) ≡ tree
headed_kept h kept (Some parts) tree f e = ap (λ x. kept_proof (built h x)) (f parts refl) ∙ ap kept_proof e
headed_kept h kept None tree f e = absurd (cc)

-- no text is too deep that is no fault
not_deep : (first most levels : ℕ) → too_deep first most levels ≡ None → levels ≤ most
not_deep first most levels e = by (nat_lt most levels) refl e where
  by : (b : Bool) → nat_lt most levels ≡ b → (if b then Some first else None) ≡ None → levels ≤ most
  by true l e = absurd (cc)
  by false l e = ltb-false most levels l

term_part : (limit most first : ℕ) (scope : Bindings) (a : Text) (part : Part) → IsText limit true a → too_deep first most (text_levels true a) ≡ None → option_map term (term_of scope a) ≡ Some part
    → expression_part true (item_of most scope a) ≡ part
term_part limit most first scope a part h d e =
    let m = some_map term (term_of scope a) part e in
    let k = (asked_kept limit most true scope a h).1 (of_term m.0) (not_deep first most (text_levels true a) d) (ap (option_map of_term) m.1) in
    ap (λ (x : Tree). term (as_term x)) k ∙ m.2

formula_part : (limit most first : ℕ) (scope : Bindings) (a : Text) (part : Part) → IsText limit false a → too_deep first most (text_levels false a) ≡ None → option_map formula (formula_of scope a) ≡ Some part
    → expression_part false (item_of most scope a) ≡ part
formula_part limit most first scope a part h d e =
    let m = some_map formula (formula_of scope a) part e in
    let k = (asked_kept limit most false scope a h).1 (of_formula m.0) (not_deep first most (text_levels false a) d) (ap (option_map of_formula) m.1) in
    ap (λ (x : Tree). formula (as_formula x)) k ∙ m.2

-- # Together

module _ (limit proofs most : ℕ) (holes : Bool) where
  mutual
    -- what is kept of a proof is what it means
    pub proof_kept : (p : ProofText) (first around : ℕ) (scope : ProofScope) (tree : ProofTree) → IsProofText limit proofs holes around p → deep_at first most p ≡ None → proof_of scope p ≡ Some tree → tree_kept most scope p ≡ tree
    proof_kept (numbered k) first around scope tree h d e = numbered_kept (nat_lt k scope.hypotheses) (scope.hypotheses - 1 - k) tree e
    proof_kept (open_hole k) first around scope tree h d e = cc
    proof_kept (headed g arguments) first around scope tree h d e =
        headed_kept g (parts_kept most scope (kinds g) arguments) (meanings_of scope (kinds g) arguments) tree
        (λ parts m. arguments_kept arguments (2 + first) (suc around) scope (kinds g) parts h.1 d m) e

    arguments_kept : (others : Arguments) (first around : ℕ) (scope : ProofScope) (ks : List Kind) (parts : List Part) → AreArguments limit proofs holes around ks others → deep_among first most ks others ≡ None
        → meanings_of scope ks others ≡ Some parts → parts_kept most scope ks others ≡ parts
    arguments_kept (last a) first around scope [] parts h d e = absurd h
    arguments_kept (last a) first around scope (k ∷ ks) parts h d e =
        let p = parts_are (part_of scope k a) (Some []) parts e in
        let none : [] ≡ p.1 = cc in
        ap₂ (λ x xs. x ∷ xs) (argument_kept a first around scope k p.0 h.1 d p.2) none ∙ p.4
    arguments_kept (more a others) first around scope [] parts h d e = absurd h
    arguments_kept (more a others) first around scope (k ∷ ks) parts h d e =
        let p = parts_are (part_of scope k a) (meanings_of scope ks others) parts e in
        let n = first_is_none (deep_in first most k a) (deep_among (suc (first + length (argument_tokens a))) most ks others) d in
        ap₂ (λ x xs. x ∷ xs) (argument_kept a first around scope k p.0 h.0 n.0 p.2)
        (arguments_kept others (suc (first + length (argument_tokens a))) around scope ks p.1 h.1 n.1 p.3) ∙ p.4

    argument_kept : (a : Argument) (first around : ℕ) (scope : ProofScope) (k : Kind) (part : Part) → IsArgument limit proofs holes around k a → deep_in first most k a ≡ None → part_of scope k a ≡ Some part
        → part_kept most scope k a ≡ part
    argument_kept (of_sort s) first around scope a_sort part h d e = cc
    argument_kept (of_number n) first around scope a_number part h d e = cc
    argument_kept (of_expression a) first around scope a_term part h d e = term_part limit most first (expression_scope 0 scope) a part h d e
    argument_kept (of_expression a) first around scope (a_formula v) part h d e = formula_part limit most first (expression_scope v scope) a part h d e
    argument_kept (of_proof p) first around scope (a_proof v g) part h d e =
        let m = some_map proof_term (proof_of (grown v g scope) p) part e in
        ap proof_term (proof_kept p first around (grown v g scope) m.0 h d m.1) ∙ m.2
    argument_kept a first around scope k part h d e = absurd h
