-- What the proofs need of the table of rules.
use Rattle.std.proofs.Common.{◌≡◌, ℕ, ◌<◌, Bool, true, false, List, [], ◌∷◌, refl, ap, ◌∙◌, arith, Some, if◌then◌else◌}
use Rattle.std.specs.Str.{bytes_eq}
use Rattle.std.proofs.lemmas.Slice.Eq.{bytes_eq-Decides}
use Rattle.ck_base.specs.declared.decl.Sort.TheVariants as sorts
use Rattle.ck_text.specs.declared.head.Head.{Head}
use Rattle.ck_text.specs.declared.head.Head.TheVariants as heads
use Rattle.ck_text.specs.Tokens.{is_word}
use Rattle.ck_text.specs.Texts.{Text, truth, IsText}
use Rattle.ck_text.specs.ProofTexts.{Kind, a_sort, a_number, a_term, a_formula, a_proof, kinds, head_word, ProofText, numbered, Argument, of_sort, of_number, of_expression, of_proof, IsProofText, IsArgument}
use Rattle.ck_text.specs.ProofMachine.{asks_term, all_heads, named_among, head_of}

-- the name of a rule is found
pub head_found : (h : Head) → head_of (head_word h) ≡ Some h
head_found heads.Lam = refl
head_found heads.App = refl
head_found heads.Gen = refl
head_found heads.Inst = refl
head_found heads.Pair = refl
head_found heads.First = refl
head_found heads.Second = refl
head_found heads.Left = refl
head_found heads.Right = refl
head_found heads.Cases = refl
head_found heads.Pack = refl
head_found heads.Unpack = refl
head_found heads.Absurd = refl
head_found heads.Stable = refl
head_found heads.Refl = refl
head_found heads.Rewrite = refl
head_found heads.Axiom = refl
head_found heads.Induct = refl
head_found heads.Compute = refl
head_found heads.Ring = refl

pub head_is_word : (h : Head) → is_word (head_word h) ≡ true
head_is_word heads.Lam = refl
head_is_word heads.App = refl
head_is_word heads.Gen = refl
head_is_word heads.Inst = refl
head_is_word heads.Pair = refl
head_is_word heads.First = refl
head_is_word heads.Second = refl
head_is_word heads.Left = refl
head_is_word heads.Right = refl
head_is_word heads.Cases = refl
head_is_word heads.Pack = refl
head_is_word heads.Unpack = refl
head_is_word heads.Absurd = refl
head_is_word heads.Stable = refl
head_is_word heads.Refl = refl
head_is_word heads.Rewrite = refl
head_is_word heads.Axiom = refl
head_is_word heads.Induct = refl
head_is_word heads.Compute = refl
head_is_word heads.Ring = refl

-- what is found has the name
named_is : (heads : List Head) (bytes : List ℕ) (h : Head) → named_among heads bytes ≡ Some h → bytes ≡ head_word h
named_is [] bytes h e = absurd (cc)
named_is (g ∷ others) bytes h e = by (named_is others bytes h) (bytes_eq bytes (head_word g)) (bytes_eq-Decides bytes (head_word g)).0 e where
  by : (named_among others bytes ≡ Some h → bytes ≡ head_word h) → (b : Bool) → (b ≡ true → bytes ≡ head_word g) → (if b then Some g else named_among others bytes) ≡ Some h → bytes ≡ head_word h
  by ih true d e = let same : g ≡ h = cc in d refl ∙ ap head_word same
  by ih false d e = ih e

pub head_named : (bytes : List ℕ) (h : Head) → head_of bytes ≡ Some h → bytes ≡ head_word h
head_named bytes h e = named_is all_heads bytes h e

-- each rule has an argument
pub has_argument : (h : Head) → (k : Kind) × (after : List Kind) × (kinds h ≡ k ∷ after)
has_argument heads.Lam = (_, _, refl)
has_argument heads.App = (_, _, refl)
has_argument heads.Gen = (_, _, refl)
has_argument heads.Inst = (_, _, refl)
has_argument heads.Pair = (_, _, refl)
has_argument heads.First = (_, _, refl)
has_argument heads.Second = (_, _, refl)
has_argument heads.Left = (_, _, refl)
has_argument heads.Right = (_, _, refl)
has_argument heads.Cases = (_, _, refl)
has_argument heads.Pack = (_, _, refl)
has_argument heads.Unpack = (_, _, refl)
has_argument heads.Absurd = (_, _, refl)
has_argument heads.Stable = (_, _, refl)
has_argument heads.Refl = (_, _, refl)
has_argument heads.Rewrite = (_, _, refl)
has_argument heads.Axiom = (_, _, refl)
has_argument heads.Induct = (_, _, refl)
has_argument heads.Compute = (_, _, refl)
has_argument heads.Ring = (_, _, refl)

-- a proof is wanted; a term or formula is wanted
abbrev pub IsProofKind : Kind → Type 0
IsProofKind (a_proof v h) = Unit {0}
IsProofKind k = ⊥

abbrev pub IsExpressionKind : Kind → Type 0
IsExpressionKind a_term = Unit {0}
IsExpressionKind (a_formula v) = Unit {0}
IsExpressionKind k = ⊥

-- the least argument of each kind: `int`, `0`, `true` and `#0`
abbrev pub least : Kind → Argument
least a_sort = of_sort sorts.Int
least a_number = of_number 0
least a_term = of_expression (truth true)
least (a_formula v) = of_expression (truth true)
least (a_proof v h) = of_proof (numbered 0)

module _ (limit most : ℕ) (holes : Bool) (around : ℕ) where
  pub proof_argument : (k : Kind) (p : ProofText) → IsProofKind k → IsProofText limit most holes around p → IsArgument limit most holes around k (of_proof p)
  proof_argument (a_proof v h) p is text = text
  proof_argument a_sort p is text = absurd is
  proof_argument a_number p is text = absurd is
  proof_argument a_term p is text = absurd is
  proof_argument (a_formula v) p is text = absurd is

  pub expression_argument : (k : Kind) (a : Text) → IsExpressionKind k → IsText limit (asks_term k) a → IsArgument limit most holes around k (of_expression a)
  expression_argument a_term a is text = text
  expression_argument (a_formula v) a is text = text
  expression_argument a_sort a is text = absurd is
  expression_argument a_number a is text = absurd is
  expression_argument (a_proof v h) a is text = absurd is

  pub least_is : (k : Kind) → around < most → IsArgument limit most holes around k (least k)
  least_is a_sort low = tt
  least_is a_number low = omega arith
  least_is a_term low = (tt, refl)
  least_is (a_formula v) low = (tt, refl)
  least_is (a_proof v h) low = (low, omega arith)
