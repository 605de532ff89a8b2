-- A proof term has at most twice as many nodes as its text has tokens.
use Rattle.std.proofs.Common.{◌≡◌, ℕ, ◌+◌, ◌*◌, ◌≤◌, Bool, true, false, List, [], ◌∷◌, length, arith, refl, subst, Option, Some, None, if◌then◌else◌}
use Rattle.std.specs.Option.{option_map}
use Rattle.std.proofs.lemmas.List.{length-append}
use Rattle.formulas.specs.Sorts.{size}
use Rattle.sorted_terms.specs.Sorts.{term_size}
use Rattle.proof_terms.specs.Tree as proof
use Rattle.proof_terms.specs.Size.{proof_size}
use Rattle.ck_text.specs.declared.head.Head.{Head}
use Rattle.ck_text.specs.declared.head.Head.TheVariants as heads
use Rattle.ck_text.specs.declared.token.Mark.TheVariants as marks
use Rattle.ck_text.specs.Tokens as token
use Rattle.ck_text.specs.Texts.{tokens, term_of, formula_of}
use Rattle.ck_text.specs.ProofTexts.{Kind, a_sort, a_number, a_term, a_formula, a_proof, kinds, ProofText, numbered, open_hole, headed, Arguments, last, more, Argument, of_sort, of_number, of_expression, of_proof, proof_tokens, arguments_tokens, argument_tokens, ProofScope, grown, expression_scope, Part, sort, number, term, formula, proof_term, built, built_of, parts_of, proof_of, meanings_of, part_of}
use Rattle.ck_text.specs.ProofReadingLaws.{ProofNodes}
use Rattle.ck_text.proofs.Nodes.{HasMost, term_most, formula_most}

abbrev part_size : Part → ℕ
part_size (term t) = term_size t
part_size (formula a) = size a
part_size (proof_term p) = proof_size p
part_size part = 0

-- all nodes of the parts
abbrev parts_size : List Part → ℕ
parts_size [] = 0
parts_size (part ∷ parts) = part_size part + parts_size parts

built_most : (h : Head) (parts : List Part) (n : ℕ) → 1 + parts_size parts ≤ n → HasMost proof_size (built h parts) n
built_most heads.Lam (formula a ∷ proof_term p ∷ []) n h = omega (arith, h)
built_most heads.App (proof_term p ∷ proof_term q ∷ []) n h = omega (arith, h)
built_most heads.Gen (sort s ∷ proof_term p ∷ []) n h = omega (arith, h)
built_most heads.Inst (proof_term p ∷ term t ∷ []) n h = omega (arith, h)
built_most heads.Pair (proof_term p ∷ proof_term q ∷ []) n h = omega (arith, h)
built_most heads.First (proof_term p ∷ []) n h = omega (arith, h)
built_most heads.Second (proof_term p ∷ []) n h = omega (arith, h)
built_most heads.Left (formula b ∷ proof_term p ∷ []) n h = omega (arith, h)
built_most heads.Right (formula a ∷ proof_term p ∷ []) n h = omega (arith, h)
built_most heads.Cases (proof_term p ∷ proof_term q ∷ proof_term r ∷ []) n h = omega (arith, h)
built_most heads.Pack (sort s ∷ formula a ∷ term t ∷ proof_term p ∷ []) n h = omega (arith, h)
built_most heads.Unpack (proof_term p ∷ proof_term q ∷ []) n h = omega (arith, h)
built_most heads.Absurd (formula a ∷ proof_term p ∷ []) n h = omega (arith, h)
built_most heads.Stable (proof_term p ∷ []) n h = omega (arith, h)
built_most heads.Refl (term t ∷ []) n h = omega (arith, h)
built_most heads.Rewrite (formula a ∷ proof_term p ∷ proof_term q ∷ []) n h = omega (arith, h)
built_most heads.Axiom (number i ∷ []) n h = omega (arith, h)
built_most heads.Induct (formula a ∷ []) n h = omega (arith, h)
built_most heads.Compute (term t ∷ []) n h = omega (arith, h)
built_most heads.Ring (term s ∷ term t ∷ []) n h = omega (arith, h)
built_most h parts n low = tt

built_of_most : (h : Head) (parts : Option (List Part)) (m n : ℕ) → 1 + m ≤ n → HasMost parts_size parts m → HasMost proof_size (built_of h parts) n
built_of_most h (Some parts) m n low k = built_most h parts n (omega (arith, low, k))
built_of_most h None m n low k = tt

parts_of_most : (part : Option Part) (parts : Option (List Part)) (k m n : ℕ) → k + m ≤ n → HasMost part_size part k → HasMost parts_size parts m → HasMost parts_size (parts_of part parts) n
parts_of_most (Some part) (Some parts) k m n low h i = omega (arith, low, h, i)
parts_of_most (Some part) None k m n low h i = tt
parts_of_most None parts k m n low h i = tt

map_most : {A : Type 0} (f : A → Part) (nodes : A → ℕ) → ((a : A) → part_size (f a) ≡ nodes a) → (o : Option A) (m n : ℕ) → m ≤ n → HasMost nodes o m → HasMost part_size (option_map f o) n
map_most f nodes same (Some a) m n low h = omega (arith, low, h, same a)
map_most f nodes same None m n low h = tt

number_most : (b : Bool) (k : ℕ) → HasMost proof_size (if b then Some (proof.hypothesis k) else None) 4
number_most true k = omega arith
number_most false k = tt

headed_length : (h : Head) (arguments : Arguments) → length (proof_tokens (headed h arguments)) ≡ 3 + length (arguments_tokens arguments)
headed_length h arguments = omega (arith, length-append (arguments_tokens arguments) (token.mark marks.Close ∷ []))

more_length : (a : Argument) (others : Arguments) → length (arguments_tokens (more a others)) ≡ 1 + length (argument_tokens a) + length (arguments_tokens others)
more_length a others = omega (arith, length-append (argument_tokens a) (token.mark marks.Comma ∷ arguments_tokens others))

mutual
  proof_most : (p : ProofText) (scope : ProofScope) → HasMost proof_size (proof_of scope p) (2 * length (proof_tokens p))
  proof_most (numbered k) scope = number_most _ _
  proof_most (open_hole k) scope = omega arith
  proof_most (headed h arguments) scope =
      built_of_most h (meanings_of scope (kinds h) arguments) (2 * length (arguments_tokens arguments)) (2 * length (proof_tokens (headed h arguments))) (omega (arith, headed_length h arguments))
      (arguments_most arguments scope (kinds h))

  arguments_most : (others : Arguments) (scope : ProofScope) (ks : List Kind) → HasMost parts_size (meanings_of scope ks others) (2 * length (arguments_tokens others))
  arguments_most (last a) scope [] = tt
  arguments_most (last a) scope (k ∷ ks) =
      parts_of_most (part_of scope k a) (Some []) (2 * length (argument_tokens a)) 0 (2 * length (argument_tokens a)) (omega arith) (argument_most a scope k) (omega arith)
  arguments_most (more a others) scope [] = tt
  arguments_most (more a others) scope (k ∷ ks) =
      parts_of_most (part_of scope k a) (meanings_of scope ks others) (2 * length (argument_tokens a)) (2 * length (arguments_tokens others)) (2 * length (arguments_tokens (more a others)))
      (omega (arith, more_length a others)) (argument_most a scope k) (arguments_most others scope ks)

  argument_most : (a : Argument) (scope : ProofScope) (k : Kind) → HasMost part_size (part_of scope k a) (2 * length (argument_tokens a))
  argument_most (of_sort s) scope a_sort = omega arith
  argument_most (of_number n) scope a_number = omega arith
  argument_most (of_expression a) scope a_term =
      map_most term term_size (λ t. refl) (term_of (expression_scope 0 scope) a) (length (tokens a)) (2 * length (tokens a)) (omega arith) (term_most (expression_scope 0 scope) a)
  argument_most (of_expression a) scope (a_formula v) =
      map_most formula size (λ t. refl) (formula_of (expression_scope v scope) a) (2 * length (tokens a)) (2 * length (tokens a)) (omega arith) (formula_most (expression_scope v scope) a)
  argument_most (of_proof p) scope (a_proof v g) =
      map_most proof_term proof_size (λ t. refl) (proof_of (grown v g scope) p) (2 * length (proof_tokens p)) (2 * length (proof_tokens p)) (omega arith) (proof_most p (grown v g scope))
  argument_most a scope k = tt

pub proof_nodes : ProofNodes
proof_nodes scope p tree e = subst (λ o. HasMost proof_size o (2 * length (proof_tokens p))) e (proof_most p scope)
