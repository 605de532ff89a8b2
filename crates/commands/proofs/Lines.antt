-- What a line of at most 8,192 bytes can ask for.
use Rattle.std.proofs.Common.{◌≡◌, ℕ, zero, suc, ◌+◌, ◌-◌, ◌*◌, ◌^◌, ◌<◌, ◌≤◌, max, Bool, true, false, List, [], ◌∷◌, ◌++◌, length, refl, sym, ap, subst, ◌∙◌, arith, Option, Some, None, nat_lt, nat_le, ◌==◌, if◌then◌else◌}
use Rattle.std.proofs.lemmas.List.{length-append}
use Rattle.std.proofs.lemmas.Bool.{and_parts, leb-true}
use Rattle.std.specs.List.{list_all}
use Rattle.formulas.specs.Tree.{FormulaTree}
use Rattle.formulas.specs.Sorts.{fits, size}
use Rattle.proof_terms.specs.Tree.{ProofTree, hypothesis, lambda, application}
use Rattle.proof_terms.specs.Size.{proof_size}
use Rattle.cert_codec.specs.Spelling.{is_built_formula, IsBuiltProof}
use Rattle.script_reader.specs.declared.token.Token.{Token}
use Rattle.script_reader.specs.declared.token.Token.TheVariants as token
use Rattle.script_reader.specs.declared.lines.OpenHole.{OpenHole}
use Rattle.script_reader.specs.Tokens.{is_blank, first_token, scan}
use Rattle.script_reader.specs.Texts.{FormulaText, truth, falsity, closed, denied, implied, formula_of, formula_tokens, IsFormula, ProofText, numbered, abstraction, applied, proof_of, both_applied, proof_tokens, proof_nesting, HasFormulas}
use Rattle.script_reader.specs.Lines.{LineText, spec_text, skip_text, intro_text, exact_text, export_text, line_tokens, IsLine, LineTree, spec, skip, intro, exact, export, hypotheses_at, line_of, is_text_byte, Means}
use Rattle.script_reader.proofs.Readers.{mapped, both_there}
use Rattle.commands.specs.Answers.{MayBe}

-- ---- formulas and proofs out of texts

built_text : (t : FormulaText) → is_built_formula (formula_of t) ≡ true
built_text (truth b) = refl
built_text falsity = refl
built_text (closed a) = built_text a
built_text (denied a) = rw (built_text a) refl
built_text (implied a b) = rw (built_text a, built_text b) refl

small_text : (t : FormulaText) → size (formula_of t) ≤ 2 * length (formula_tokens t)
small_text (truth true) = omega arith
small_text (truth false) = omega arith
small_text falsity = omega arith
small_text (closed a) = omega (arith, small_text a, length-append (formula_tokens a) (token.Close ∷ []))
small_text (denied a) = omega (arith, small_text a)
small_text (implied a b) = omega (arith, small_text a, small_text b, length-append (formula_tokens a) (token.Implies ∷ formula_tokens b))

built_number : (k hypotheses : ℕ) (p : ProofTree) → hypotheses < 2 ^ 32 → ◌≡◌ {A = Option ProofTree} (if nat_lt k hypotheses then Some (hypothesis (hypotheses - 1 - k)) else None) (Some p) → IsBuiltProof p × (proof_size p ≡ 1)
built_number k hypotheses p few e = by (nat_lt k hypotheses) e where
  by : (t : Bool) → ◌≡◌ {A = Option ProofTree} (if t then Some (hypothesis (hypotheses - 1 - k)) else None) (Some p) → IsBuiltProof p × (proof_size p ≡ 1)
  by true e =
      let same : hypothesis (hypotheses - 1 - k) ≡ p = cc in
      let low : hypotheses - 1 - k < 2 ^ 32 = omega (arith, few) in
      subst (λ (q : ProofTree). IsBuiltProof q × (proof_size q ≡ 1)) same (low, refl)
  by false e = absurd (cc)

-- the tree of a text is built, and has at most two nodes for each token
proof_text : (t : ProofText) (hypotheses : ℕ) (p : ProofTree) → hypotheses + proof_nesting t ≤ 2 ^ 32 → proof_of hypotheses t ≡ Some p → IsBuiltProof p × (proof_size p ≤ 2 * length (proof_tokens t))
proof_text (numbered k) hypotheses p few e =
    let b = built_number k hypotheses p (omega (arith, few)) e in
    (b.0, omega (arith, b.1))
proof_text (abstraction a t) hypotheses p few e =
    let part = mapped (λ q. lambda (formula_of a) q) (proof_of (suc hypotheses) t) p e in
    let ih = proof_text t (suc hypotheses) part.0 (omega (arith, few)) part.1 in
    let built : IsBuiltProof (lambda (formula_of a) part.0) = (built_text a, ih.0) in
    let small : proof_size (lambda (formula_of a) part.0) ≤ 2 * length (proof_tokens (abstraction a t)) =
    omega (arith, small_text a, ih.1, length-append (formula_tokens a) (token.Comma ∷ (proof_tokens t ++ (token.Close ∷ []))), length-append (proof_tokens t) (token.Close ∷ [])) in
    subst (λ (q : ProofTree). IsBuiltProof q × (proof_size q ≤ 2 * length (proof_tokens (abstraction a t)))) part.2 (built, small)
proof_text (applied f t) hypotheses p few e =
    let part = both_there (proof_of hypotheses f) (proof_of hypotheses t) p e in
    let one = proof_text f hypotheses part.0 (omega (arith, few)) part.2 in
    let two = proof_text t hypotheses part.1 (omega (arith, few)) part.3 in
    let built : IsBuiltProof (application part.0 part.1) = (one.0, two.0) in
    let small : proof_size (application part.0 part.1) ≤ 2 * length (proof_tokens (applied f t)) =
    omega (arith, one.1, two.1, length-append (proof_tokens f) (token.Comma ∷ (proof_tokens t ++ (token.Close ∷ []))), length-append (proof_tokens t) (token.Close ∷ [])) in
    subst (λ (q : ProofTree). IsBuiltProof q × (proof_size q ≤ 2 * length (proof_tokens (applied f t)))) part.4 (built, small)

-- ---- lines

-- there are no more tokens than bytes
few_tokens : (skipped : ℕ) (bytes : List ℕ) → length (scan skipped bytes) ≤ length bytes
few_tokens skipped [] = omega arith
few_tokens (suc skipped) (b ∷ bytes) = omega (arith, few_tokens skipped bytes)
few_tokens zero (b ∷ bytes) = by (few_tokens zero bytes) (few_tokens (first_token b bytes).1 bytes) (is_blank b) where
  by : length (scan zero bytes) ≤ length bytes → length (scan (first_token b bytes).1 bytes) ≤ length bytes → (t : Bool) → length (if t then scan zero bytes else (first_token b bytes).0 ∷ scan (first_token b bytes).1 bytes) ≤ suc (length bytes)
  by blank token true = omega (arith, blank)
  by blank token false = omega (arith, token)

few_hypotheses : (opened : Option OpenHole) (hole : ℕ) → ((h : OpenHole) → opened ≡ Some h → h.hypotheses < 2 ^ 31) → hypotheses_at opened hole < 2 ^ 31
few_hypotheses None hole few = omega arith
few_hypotheses (Some h) hole few = by (few h refl) (h.number == hole) where
  by : h.hypotheses < 2 ^ 31 → (t : Bool) → (if t then h.hypotheses else 0) < 2 ^ 31
  by low true = low
  by low false = omega arith

text_may_be : (opened : Option OpenHole) (line : List ℕ) (tree : LineTree) (t : LineText) → ((h : OpenHole) → opened ≡ Some h → h.hypotheses < 2 ^ 31) → length line ≤ 8192 → IsLine t → line_tokens t ≡ scan 0 line → line_of opened t ≡ Some tree → MayBe tree
text_may_be opened line tree (spec_text pre post) few short w tokens e =
    let same : spec (formula_of pre) (formula_of post) ≡ tree = cc in
    subst MayBe same (built_text pre, w.0.fitting, built_text post, w.1.fitting)
text_may_be opened line tree (skip_text hole) few short w tokens e =
    let same : skip hole ≡ tree = cc in
    subst MayBe same tt
text_may_be opened line tree (intro_text hole) few short w tokens e =
    let same : intro hole ≡ tree = cc in
    subst MayBe same tt
text_may_be opened line tree (exact_text hole t) few short w tokens e =
    let part = mapped (λ q. exact hole q) (proof_of (hypotheses_at opened hole) t) tree e in
    let p = proof_text t (hypotheses_at opened hole) part.0 (omega (arith, few_hypotheses opened hole few, w.nested)) part.1 in
    let count : suc (suc (suc (length (proof_tokens t)))) ≡ length (scan 0 line) = ap length tokens in
    let small : proof_size part.0 < 2 ^ 31 = omega (arith, p.1, count, few_tokens 0 line, short) in
    subst MayBe part.2 (p.0, small)
text_may_be opened line tree export_text few short w tokens e =
    let same : export ≡ tree = cc in
    subst MayBe same tt

pub may_be : (opened : Option OpenHole) (line : List ℕ) (tree : LineTree) → ((h : OpenHole) → opened ≡ Some h → h.hypotheses < 2 ^ 31) → Means opened line tree → MayBe tree
may_be opened line tree few m =
    let short : length line ≤ 8192 = leb-true _ _ (and_parts (nat_le (length line) 8192) (list_all is_text_byte line) m.plain).0 in
    text_may_be opened line tree m.text few short m.written m.tokens m.means
