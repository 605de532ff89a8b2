-- A proof means a proof term exactly where no name and no `#k` in it is the first that means nothing.
use Rattle.std.proofs.Common.{◌≡◌, ℕ, suc, ◌+◌, ◌-◌, Bool, true, false, ◌&&◌, List, [], ◌∷◌, length, refl, sym, ap₂, subst, ◌∙◌, Option, Some, None, nat_lt, if◌then◌else◌}
use Rattle.std.specs.Prelude.{is_none}
use Rattle.std.specs.Option.{option_map, is_some}
use Rattle.proof_terms.specs.Tree as proof
use Rattle.ck_text.specs.declared.head.Head.{Head}
use Rattle.ck_text.specs.declared.head.Head.TheVariants as heads
use Rattle.ck_text.specs.Texts.{Text, IsText, Bindings, first_of, term_of, formula_of}
use Rattle.ck_text.specs.Reading.{unknown_at}
use Rattle.ck_text.specs.ProofTexts.{Kind, a_sort, a_number, a_term, a_formula, a_proof, kinds, ProofText, numbered, open_hole, headed, Arguments, last, more, Argument, of_sort, of_number, of_expression, of_proof, argument_tokens, IsProofText, AreArguments, IsArgument, ProofScope, grown, expression_scope, Part, sort, number, term, formula, proof_term, built, built_of, parts_of, proof_of, meanings_of, part_of, unknown_in_proof, unknown_among, unknown_in}
use Rattle.ck_text.specs.ProofLaws.{ProofMeansKnown}
use Rattle.ck_text.proofs.Meanings.{term_means, formula_means}
use Rattle.ck_text.proofs.Unknowns.{unknown_names}

some_map : {A B : Type 0} (f : A → B) (o : Option A) → is_some (option_map f o) ≡ is_some o
some_map f (Some a) = refl
some_map f None = refl

none_first : {A : Type 0} (o p : Option A) → is_none (first_of o p) ≡ (is_none o && is_none p)
none_first (Some a) p = refl
none_first None p = refl

some_parts : (part : Option Part) (parts : Option (List Part)) → is_some (parts_of part parts) ≡ (is_some part && is_some parts)
some_parts (Some part) (Some parts) = refl
some_parts (Some part) None = refl
some_parts None parts = refl

alone : (b : Bool) → (b && true) ≡ b
alone true = refl
alone false = refl

known_test : {A : Type 0} (b : Bool) (a : A) (first : ℕ) → is_some (if b then Some a else None) ≡ is_none (if b then None else Some first)
known_test true a first = refl
known_test false a first = refl

-- # The table

-- what arguments of these kinds mean
abbrev Suit : List Kind → List Part → Type 0
Suit [] [] = Unit {0}
Suit (a_sort ∷ ks) (sort s ∷ parts) = Suit ks parts
Suit (a_number ∷ ks) (number n ∷ parts) = Suit ks parts
Suit (a_term ∷ ks) (term t ∷ parts) = Suit ks parts
Suit (a_formula v ∷ ks) (formula a ∷ parts) = Suit ks parts
Suit (a_proof v h ∷ ks) (proof_term p ∷ parts) = Suit ks parts
Suit ks parts = ⊥

built_some : (h : Head) (parts : List Part) → Suit (kinds h) parts → is_some (built h parts) ≡ true
built_some heads.Lam (formula a ∷ proof_term p ∷ []) s = refl
built_some heads.App (proof_term p ∷ proof_term q ∷ []) s = refl
built_some heads.Gen (sort t ∷ proof_term p ∷ []) s = refl
built_some heads.Inst (proof_term p ∷ term t ∷ []) s = refl
built_some heads.Pair (proof_term p ∷ proof_term q ∷ []) s = refl
built_some heads.First (proof_term p ∷ []) s = refl
built_some heads.Second (proof_term p ∷ []) s = refl
built_some heads.Left (formula b ∷ proof_term p ∷ []) s = refl
built_some heads.Right (formula a ∷ proof_term p ∷ []) s = refl
built_some heads.Cases (proof_term p ∷ proof_term q ∷ proof_term r ∷ []) s = refl
built_some heads.Pack (sort t ∷ formula a ∷ term u ∷ proof_term p ∷ []) s = refl
built_some heads.Unpack (proof_term p ∷ proof_term q ∷ []) s = refl
built_some heads.Absurd (formula a ∷ proof_term p ∷ []) s = refl
built_some heads.Stable (proof_term p ∷ []) s = refl
built_some heads.Refl (term t ∷ []) s = refl
built_some heads.Rewrite (formula a ∷ proof_term p ∷ proof_term q ∷ []) s = refl
built_some heads.Axiom (number i ∷ []) s = refl
built_some heads.Induct (formula a ∷ []) s = refl
built_some heads.Compute (term t ∷ []) s = refl
built_some heads.Ring (term t ∷ term u ∷ []) s = refl
built_some h parts s = absurd s

built_known : (h : Head) (o : Option (List Part)) → ((parts : List Part) → o ≡ Some parts → Suit (kinds h) parts) → is_some (built_of h o) ≡ is_some o
built_known h (Some parts) f = built_some h parts (f parts refl)
built_known h None f = refl

pub parts_are : (o : Option Part) (others : Option (List Part)) (parts : List Part) → parts_of o others ≡ Some parts
    → (part : Part) × (rest : List Part) × (o ≡ Some part) × (others ≡ Some rest) × (part ∷ rest ≡ parts)
parts_are (Some part) (Some rest) parts e = (part, rest, refl, refl, cc)
parts_are (Some part) None parts e = absurd (cc)
parts_are None others parts e = absurd (cc)

mapped : {A B : Type 0} (f : A → B) (o : Option A) (b : B) → option_map f o ≡ Some b → (a : A) × (f a ≡ b)
mapped f (Some a) b e = (a, cc)
mapped f None b e = absurd (cc)

module _ (limit most : ℕ) (holes : Bool) where
  suit_more : (around : ℕ) (scope : ProofScope) (k : Kind) (a : Argument) (part : Part) (ks : List Kind) (parts : List Part) → IsArgument limit most holes around k a → part_of scope k a ≡ Some part
      → Suit ks parts → Suit (k ∷ ks) (part ∷ parts)
  suit_more around scope a_sort (of_sort s) part ks parts i e h = let same : sort s ≡ part = cc in subst (λ x. Suit (a_sort ∷ ks) (x ∷ parts)) same h
  suit_more around scope a_number (of_number n) part ks parts i e h = let same : number n ≡ part = cc in subst (λ x. Suit (a_number ∷ ks) (x ∷ parts)) same h
  suit_more around scope a_term (of_expression a) part ks parts i e h =
      let m = mapped term (term_of (expression_scope 0 scope) a) part e in subst (λ x. Suit (a_term ∷ ks) (x ∷ parts)) m.1 h
  suit_more around scope (a_formula v) (of_expression a) part ks parts i e h =
      let m = mapped formula (formula_of (expression_scope v scope) a) part e in subst (λ x. Suit (a_formula v ∷ ks) (x ∷ parts)) m.1 h
  suit_more around scope (a_proof v g) (of_proof p) part ks parts i e h =
      let m = mapped proof_term (proof_of (grown v g scope) p) part e in subst (λ x. Suit (a_proof v g ∷ ks) (x ∷ parts)) m.1 h
  suit_more around scope k a part ks parts i e h = absurd i

  -- what the arguments mean suits the table
  meanings_suit : (others : Arguments) (around : ℕ) (scope : ProofScope) (ks : List Kind) (parts : List Part) → AreArguments limit most holes around ks others → meanings_of scope ks others ≡ Some parts → Suit ks parts
  meanings_suit (last a) around scope [] parts h e = absurd h
  meanings_suit (last a) around scope (k ∷ l ∷ ks) parts h e = absurd (cc)
  meanings_suit (last a) around scope (k ∷ []) parts h e =
      let p = parts_are (part_of scope k a) (Some []) parts e in
      let none : [] ≡ p.1 = cc in
      subst (Suit (k ∷ [])) p.4 (suit_more around scope k a p.0 [] p.1 h.1 p.2 (subst (Suit []) none tt))
  meanings_suit (more a others) around scope [] parts h e = absurd h
  meanings_suit (more a others) around scope (k ∷ ks) parts h e =
      let p = parts_are (part_of scope k a) (meanings_of scope ks others) parts e in
      subst (Suit (k ∷ ks)) p.4 (suit_more around scope k a p.0 ks p.1 h.0 p.2 (meanings_suit others around scope ks p.1 h.1 p.3))

  -- # Names and hypotheses

  term_known : (first : ℕ) (scope : Bindings) (a : Text) → IsText limit true a → is_some (option_map term (term_of scope a)) ≡ is_none (unknown_at first scope a)
  term_known first scope a h = some_map term (term_of scope a) ∙ term_means limit scope a h ∙ sym (unknown_names first scope a)

  formula_known : (first : ℕ) (scope : Bindings) (a : Text) → IsText limit false a → is_some (option_map formula (formula_of scope a)) ≡ is_none (unknown_at first scope a)
  formula_known first scope a h = some_map formula (formula_of scope a) ∙ formula_means limit scope a h ∙ sym (unknown_names first scope a)

  mutual
    proof_known : (p : ProofText) (first around : ℕ) (scope : ProofScope) → IsProofText limit most holes around p → is_some (proof_of scope p) ≡ is_none (unknown_in_proof first scope p)
    proof_known (numbered k) first around scope h = known_test (nat_lt k scope.hypotheses) (proof.hypothesis (scope.hypotheses - 1 - k)) first
    proof_known (open_hole k) first around scope h = refl
    proof_known (headed g arguments) first around scope h =
        built_known g (meanings_of scope (kinds g) arguments) (λ parts e. meanings_suit arguments (suc around) scope (kinds g) parts h.1 e)
        ∙ arguments_known arguments (2 + first) (suc around) scope (kinds g) h.1

    arguments_known : (others : Arguments) (first around : ℕ) (scope : ProofScope) (ks : List Kind) → AreArguments limit most holes around ks others
        → is_some (meanings_of scope ks others) ≡ is_none (unknown_among first scope ks others)
    arguments_known (last a) first around scope [] h = absurd h
    arguments_known (last a) first around scope (k ∷ ks) h =
        some_parts (part_of scope k a) (Some []) ∙ alone (is_some (part_of scope k a)) ∙ argument_known a first around scope k h.1
    arguments_known (more a others) first around scope [] h = absurd h
    arguments_known (more a others) first around scope (k ∷ ks) h =
        some_parts (part_of scope k a) (meanings_of scope ks others)
        ∙ ap₂ (λ x y. x && y) (argument_known a first around scope k h.0) (arguments_known others (suc (first + length (argument_tokens a))) around scope ks h.1)
        ∙ sym (none_first (unknown_in first scope k a) (unknown_among (suc (first + length (argument_tokens a))) scope ks others))

    argument_known : (a : Argument) (first around : ℕ) (scope : ProofScope) (k : Kind) → IsArgument limit most holes around k a → is_some (part_of scope k a) ≡ is_none (unknown_in first scope k a)
    argument_known (of_sort s) first around scope a_sort h = refl
    argument_known (of_number n) first around scope a_number h = refl
    argument_known (of_expression a) first around scope a_term h = term_known first (expression_scope 0 scope) a h
    argument_known (of_expression a) first around scope (a_formula v) h = formula_known first (expression_scope v scope) a h
    argument_known (of_proof p) first around scope (a_proof v g) h =
        some_map proof_term (proof_of (grown v g scope) p) ∙ proof_known p first around (grown v g scope) h
    argument_known a first around scope k h = absurd h

pub means_known : ProofMeansKnown
means_known limit most holes first scope p h = proof_known limit most holes p first 0 scope h
