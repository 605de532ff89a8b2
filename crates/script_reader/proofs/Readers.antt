-- Every written line is read as what it means, and what is read is a written line.
use Rattle.std.proofs.Common.{◌≡◌, ℕ, zero, suc, ◌+◌, ◌-◌, ◌<◌, ◌≤◌, max, Bool, true, false, List, [], ◌∷◌, ◌++◌, refl, sym, ap, subst, ◌∙◌, arith, append_assoc, append-nil, Option, Some, None, Ok, Err, if◌then◌else◌, nat_lt}
use Rattle.std.specs.Option.{option_map}
use Rattle.sorted_terms.specs.Tree.{boolean}
use Rattle.formulas.specs.Tree.{FormulaTree, bottom, holds, joined, implies, not_so}
use Rattle.formulas.specs.Sorts.{fits}
use Rattle.proof_terms.specs.Tree.{ProofTree, hypothesis, lambda, application}
use Rattle.script_reader.specs.declared.token.Token.{Token}
use Rattle.script_reader.specs.declared.token.Token.TheVariants as token
use Rattle.script_reader.specs.Texts.{FormulaText, truth, falsity, closed, denied, implied, formula_of, formula_tokens, level, IsGrouped, nesting, IsFormula, ProofText, numbered, abstraction, applied, proof_of, both_applied, proof_tokens, proof_nesting, HasFormulas, IsProof}
use Rattle.script_reader.specs.declared.stop.Stop.{Stop}
use Rattle.script_reader.specs.declared.stop.Stop.TheVariants as stops
use Rattle.script_reader.specs.declared.lines.LineFault.{LineFault}
use Rattle.script_reader.specs.declared.lines.LineFault.TheVariants as faults
use Rattle.script_reader.specs.declared.lines.OpenHole.{OpenHole}
use Rattle.script_reader.specs.Tokens.{scan}
use Rattle.script_reader.specs.Lines.{LineText, spec_text, skip_text, intro_text, exact_text, export_text, line_tokens, IsLine, LineTree, spec, skip, intro, exact, export, hypotheses_at, line_of, line_tree, Means}
use Rattle.script_reader.specs.Reading.{Read, ◌>>=◌, Gives, fault_of, after_open, after_close, after_comma, after_colon, after_brace, after_open_brace, after_implies, after_all, none, joined_by, operand_by, formula_by, formula_at, operand_at, fitting_at, hypothesis_at, ended, lambda_by, application_by, proof_by, proof_at, whole, spec_of, spec_at, step_at, line_at}

-- what a reader that goes on with another one gives
pub went_on : {A B : Type 0} (o : Option A) (f : A → Option B) (b : B) → (o >>= f) ≡ Some b → (a : A) × (o ≡ Some a) × (f a ≡ Some b)
went_on (Some a) f b e = (a, refl, e)
went_on None f b e = absurd (cc)

-- a value and the tokens after it are taken apart
pub parts_of : {A B : Type 0} (a b : A) (m n : B) → ◌≡◌ {A = Option (A × B)} (Some (a, m)) (Some (b, n)) → (a ≡ b) × (m ≡ n)
parts_of {A} {B} a b m n e =
    let k : ◌≡◌ {A = A × B} (a, m) (b, n) = cc in
    (ap (λ (x : A × B). x.0) k, ap (λ (x : A × B). x.1) k)

open_is : (tokens rest : List Token) → after_open tokens ≡ Some rest → tokens ≡ token.Open ∷ rest
open_is (token.Open ∷ more) rest e = cc
open_is tokens rest e = absurd (cc)

close_is : (tokens rest : List Token) → after_close tokens ≡ Some rest → tokens ≡ token.Close ∷ rest
close_is (token.Close ∷ more) rest e = cc
close_is tokens rest e = absurd (cc)

comma_is : (tokens rest : List Token) → after_comma tokens ≡ Some rest → tokens ≡ token.Comma ∷ rest
comma_is (token.Comma ∷ more) rest e = cc
comma_is tokens rest e = absurd (cc)

colon_is : (tokens rest : List Token) → after_colon tokens ≡ Some rest → tokens ≡ token.Colon ∷ rest
colon_is (token.Colon ∷ more) rest e = cc
colon_is tokens rest e = absurd (cc)

brace_is : (tokens rest : List Token) → after_brace tokens ≡ Some rest → tokens ≡ token.CloseBrace ∷ rest
brace_is (token.CloseBrace ∷ more) rest e = cc
brace_is tokens rest e = absurd (cc)

open_brace_is : (tokens rest : List Token) → after_open_brace tokens ≡ Some rest → tokens ≡ token.OpenBrace ∷ rest
open_brace_is (token.OpenBrace ∷ more) rest e = cc
open_brace_is tokens rest e = absurd (cc)

implies_is : (tokens rest : List Token) → after_implies tokens ≡ Some rest → tokens ≡ token.Implies ∷ rest
implies_is (token.Implies ∷ more) rest e = cc
implies_is tokens rest e = absurd (cc)

-- ---- formulas

-- The tokens are those of a written formula that means this one, of fewer levels of nesting than the bound
-- and at least that tight, and more tokens after them.
record IsWritten (bound tight : ℕ) (a : FormulaTree) (tokens rest : List Token) : Type 0 where
  text : FormulaText
  means : formula_of text ≡ a
  spelled : tokens ≡ formula_tokens text ++ rest
  grouped : IsGrouped text
  nested : nesting text < bound
  binds : tight ≤ level text

abbrev Takes : ℕ → ℕ → (List Token → Read FormulaTree) → Type 0
Takes bound tight read = (tokens : List Token) (a : FormulaTree) (rest : List Token) → read tokens ≡ Some (a, rest) → IsWritten bound tight a tokens rest

none_takes : (tight : ℕ) → Takes zero tight none
none_takes tight tokens a rest e = absurd (cc)

-- a text of one token
single : (bound : ℕ) (first : Token) (t : FormulaText) (a b : FormulaTree) (more rest : List Token) → formula_tokens t ≡ first ∷ [] → formula_of t ≡ b → IsGrouped t → nesting t ≡ 0 → level t ≡ 11
    → ◌≡◌ {A = Option (FormulaTree × List Token)} (Some (b, more)) (Some (a, rest)) → IsWritten (suc bound) 3 a (first ∷ more) rest
single bound first t a b more rest spelled means grouped flat tight e =
    let parts = parts_of b a more rest e in
    record {
      text = t;
      means = means ∙ parts.0;
      spelled = ap (λ (ts : List Token). first ∷ ts) parts.1 ∙ sym (ap (λ (ts : List Token). ts ++ rest) spelled);
      grouped = grouped;
      nested = omega (arith, flat);
      binds = omega (arith, tight);
    }

operand_takes_by : (bound : ℕ) (formula operand : List Token → Read FormulaTree) → Takes bound 0 formula → Takes bound 3 operand → Takes (suc bound) 3 (operand_by formula operand)
operand_takes_by bound formula operand f o (token.True ∷ more) a rest e = single bound token.True (truth true) a (holds (boolean true)) more rest refl refl tt refl refl e
operand_takes_by bound formula operand f o (token.False ∷ more) a rest e = single bound token.False (truth false) a (holds (boolean false)) more rest refl refl tt refl refl e
operand_takes_by bound formula operand f o (token.Bottom ∷ more) a rest e = single bound token.Bottom falsity a bottom more rest refl refl tt refl refl e
operand_takes_by bound formula operand f o (token.Open ∷ more) a rest e =
    let inner = went_on (formula more) (λ r. after_close r.1 >>= (λ left. Some (r.0, left))) (a, rest) e in
    let closing = went_on (after_close inner.0.1) (λ left. Some (inner.0.0, left)) (a, rest) inner.2 in
    let parts = parts_of inner.0.0 a closing.0 rest closing.2 in
    let w = f more inner.0.0 inner.0.1 inner.1 in
    let close : inner.0.1 ≡ token.Close ∷ rest = close_is inner.0.1 closing.0 closing.1 ∙ ap (λ (ts : List Token). token.Close ∷ ts) parts.1 in
    record {
      text = closed w.text;
      means = w.means ∙ parts.0;
      spelled = ap (λ (ts : List Token). token.Open ∷ ts) (w.spelled ∙ ap (λ (ts : List Token). formula_tokens w.text ++ ts) close ∙ sym (append_assoc (formula_tokens w.text) (token.Close ∷ []) rest));
      grouped = w.grouped;
      nested = omega (arith, w.nested);
      binds = omega arith;
    }
operand_takes_by bound formula operand f o (token.Not ∷ more) a rest e =
    let inner = went_on (operand more) (λ r. Some (not_so r.0, r.1)) (a, rest) e in
    let parts = parts_of (not_so inner.0.0) a inner.0.1 rest inner.2 in
    let w = o more inner.0.0 inner.0.1 inner.1 in
    record {
      text = denied w.text;
      means = ap not_so w.means ∙ parts.0;
      spelled = ap (λ (ts : List Token). token.Not ∷ ts) (w.spelled ∙ ap (λ (ts : List Token). formula_tokens w.text ++ ts) parts.1);
      grouped = (w.binds, w.grouped);
      nested = omega (arith, w.nested);
      binds = omega arith;
    }
operand_takes_by bound formula operand f o tokens a rest e = absurd (cc)

-- the left side and what is joined to it
joined_takes : (bound : ℕ) (formula : List Token → Read FormulaTree) → Takes bound 0 formula → (left : FormulaTree) (tokens middle : List Token) → IsWritten (suc bound) 3 left tokens middle
    → (a : FormulaTree) (rest : List Token) (next : Option (List Token)) → after_implies middle ≡ next → joined_by formula left middle next ≡ Some (a, rest) → IsWritten (suc bound) 0 a tokens rest
joined_takes bound formula f left tokens middle w a rest None next e =
    let parts = parts_of left a middle rest e in
    record {
      text = w.text;
      means = w.means ∙ parts.0;
      spelled = w.spelled ∙ ap (λ (ts : List Token). formula_tokens w.text ++ ts) parts.1;
      grouped = w.grouped;
      nested = w.nested;
      binds = omega arith;
    }
joined_takes bound formula f left tokens middle w a rest (Some more) next e =
    let inner = went_on (formula more) (λ r. Some (joined implies left r.0, r.1)) (a, rest) e in
    let parts = parts_of (joined implies left inner.0.0) a inner.0.1 rest inner.2 in
    let right = f more inner.0.0 inner.0.1 inner.1 in
    let sign : middle ≡ token.Implies ∷ (formula_tokens right.text ++ rest) =
    implies_is middle more next ∙ ap (λ (ts : List Token). token.Implies ∷ ts) (right.spelled ∙ ap (λ (ts : List Token). formula_tokens right.text ++ ts) parts.1) in
    record {
      text = implied w.text right.text;
      means = ap (λ (b : FormulaTree). joined implies b (formula_of right.text)) w.means ∙ ap (λ (b : FormulaTree). joined implies left b) right.means ∙ parts.0;
      spelled = w.spelled ∙ ap (λ (ts : List Token). formula_tokens w.text ++ ts) sign ∙ sym (append_assoc (formula_tokens w.text) (token.Implies ∷ formula_tokens right.text) rest);
      grouped = (omega (arith, w.binds), w.grouped, right.grouped);
      nested = omega (arith, w.nested, right.nested);
      binds = omega arith;
    }

formula_takes_by : (bound : ℕ) (formula operand : List Token → Read FormulaTree) → Takes bound 0 formula → Takes bound 3 operand → Takes (suc bound) 0 (formula_by formula operand)
formula_takes_by bound formula operand f o tokens a rest e =
    let left = went_on (operand_by formula operand tokens) (λ r. joined_by formula r.0 r.1 (after_implies r.1)) (a, rest) e in
    joined_takes bound formula f left.0.0 tokens left.0.1 (operand_takes_by bound formula operand f o tokens left.0.0 left.0.1 left.1) a rest (after_implies left.0.1) refl left.2

mutual
  unfolding formula_at

  formula_takes : (n : ℕ) → Takes (suc n) 0 (formula_at n)
  formula_takes zero = formula_takes_by zero none none (none_takes 0) (none_takes 3)
  formula_takes (suc n) = formula_takes_by (suc n) (formula_at n) (operand_at n) (formula_takes n) (operand_takes n)

  operand_takes : (n : ℕ) → Takes (suc n) 3 (operand_at n)
  operand_takes zero = operand_takes_by zero none none (none_takes 0) (none_takes 3)
  operand_takes (suc n) = operand_takes_by (suc n) (formula_at n) (operand_at n) (formula_takes n) (operand_takes n)

-- a denial and what is in parentheses bind more tightly than an implication
tight_enough : (t : FormulaText) → 1 ≤ level t → 3 ≤ level t
tight_enough (truth b) h = omega arith
tight_enough falsity h = omega arith
tight_enough (closed a) h = omega arith
tight_enough (denied a) h = omega arith
tight_enough (implied a b) h = absurd (omega (arith, h))

-- a written formula is read as what it means, an operand too where it binds tightly
record IsRead (t : FormulaText) : Type 0 where
  operand : (n : ℕ) (rest : List Token) → nesting t ≤ n → 3 ≤ level t → operand_at n (formula_tokens t ++ rest) ≡ Some (formula_of t, rest)
  formula : (n : ℕ) (rest : List Token) → nesting t ≤ n → after_implies rest ≡ None → formula_at n (formula_tokens t ++ rest) ≡ Some (formula_of t, rest)

-- a formula begins with an operand
by_operand : (n : ℕ) (tokens rest : List Token) (a : FormulaTree) → operand_at n tokens ≡ Some (a, rest) → after_implies rest ≡ None → formula_at n tokens ≡ Some (a, rest)
unfolding formula_at
by_operand zero tokens rest a e last = rw (e, last) refl
by_operand (suc n) tokens rest a e last = rw (e, last) refl

tight : (t : FormulaText) → 3 ≤ level t → ((n : ℕ) (rest : List Token) → nesting t ≤ n → 3 ≤ level t → operand_at n (formula_tokens t ++ rest) ≡ Some (formula_of t, rest)) → IsRead t
tight t binds operand = record {
  operand = operand;
  formula = λ n rest nested last. by_operand n (formula_tokens t ++ rest) rest (formula_of t) (operand n rest nested binds) last;
}

atom_read : (t : FormulaText) → level t ≡ 11 → ((n : ℕ) (rest : List Token) → operand_at n (formula_tokens t ++ rest) ≡ Some (formula_of t, rest)) → IsRead t
atom_read t binds read = tight t (omega (arith, binds)) (λ n rest nested h. read n rest)

truth_read : (b : Bool) (n : ℕ) (rest : List Token) → operand_at n (formula_tokens (truth b) ++ rest) ≡ Some (formula_of (truth b), rest)
unfolding formula_at
truth_read true zero rest = refl
truth_read true (suc n) rest = refl
truth_read false zero rest = refl
truth_read false (suc n) rest = refl

falsity_read : (n : ℕ) (rest : List Token) → operand_at n (formula_tokens falsity ++ rest) ≡ Some (formula_of falsity, rest)
unfolding formula_at
falsity_read zero rest = refl
falsity_read (suc n) rest = refl

closed_read : (a : FormulaText) → IsRead a → (n : ℕ) (rest : List Token) → nesting (closed a) ≤ n → operand_at n (formula_tokens (closed a) ++ rest) ≡ Some (formula_of (closed a), rest)
unfolding formula_at
closed_read a r zero rest nested = absurd (omega (arith, nested))
closed_read a r (suc n) rest nested =
    rw (append_assoc (formula_tokens a) (token.Close ∷ []) rest, r.formula n (token.Close ∷ rest) (omega (arith, nested)) refl) refl

denied_read : (a : FormulaText) → IsRead a → 3 ≤ level a → (n : ℕ) (rest : List Token) → nesting (denied a) ≤ n → operand_at n (formula_tokens (denied a) ++ rest) ≡ Some (formula_of (denied a), rest)
unfolding formula_at
denied_read a r binds zero rest nested = absurd (omega (arith, nested))
denied_read a r binds (suc n) rest nested = rw (r.operand n rest (omega (arith, nested)) binds) refl

implied_read : (a b : FormulaText) → IsRead a → IsRead b → 1 ≤ level a → (n : ℕ) (rest : List Token) → nesting (implied a b) ≤ n → after_implies rest ≡ None → formula_at n (formula_tokens (implied a b) ++ rest) ≡ Some (formula_of (implied a b), rest)
unfolding formula_at
implied_read a b r q binds zero rest nested last = absurd (omega (arith, nested))
implied_read a b r q binds (suc n) rest nested last =
    rw (append_assoc (formula_tokens a) (token.Implies ∷ formula_tokens b) rest, r.operand (suc n) (token.Implies ∷ (formula_tokens b ++ rest)) (omega (arith, nested)) (tight_enough a binds), q.formula n rest (omega (arith, nested)) last) refl

formula_read : (t : FormulaText) → IsGrouped t → IsRead t
formula_read (truth b) g = atom_read (truth b) refl (truth_read b)
formula_read falsity g = atom_read falsity refl falsity_read
formula_read (closed a) g = let r = formula_read a g in tight (closed a) (omega arith) (λ n rest nested h. closed_read a r n rest nested)
formula_read (denied a) g = let r = formula_read a g.1 in tight (denied a) (omega arith) (λ n rest nested h. denied_read a r g.0 n rest nested)
formula_read (implied a b) g =
    let r = formula_read a g.1 in
    let q = formula_read b g.2 in
    record { operand = λ n rest nested binds. absurd (omega (arith, binds)); formula = implied_read a b r q g.0 }

-- the tokens are those of a formula as it may be written, and more after them
record IsWhole (a : FormulaTree) (tokens rest : List Token) : Type 0 where
  text : FormulaText
  means : formula_of text ≡ a
  spelled : tokens ≡ formula_tokens text ++ rest
  written : IsFormula text

fitted : (a : FormulaTree) (more : List Token) (b : FormulaTree) (rest : List Token) → ◌≡◌ {A = Option (FormulaTree × List Token)} (if fits a then Some (a, more) else None) (Some (b, rest)) → (fits a ≡ true) × (a ≡ b) × (more ≡ rest)
fitted a more b rest e = by (fits a) refl e where
  by : (t : Bool) → fits a ≡ t → ◌≡◌ {A = Option (FormulaTree × List Token)} (if t then Some (a, more) else None) (Some (b, rest)) → (fits a ≡ true) × (a ≡ b) × (more ≡ rest)
  by true f e = let parts = parts_of a b more rest e in (f, parts.0, parts.1)
  by false f e = absurd (cc)

fitting_takes : (tokens : List Token) (a : FormulaTree) (rest : List Token) → fitting_at tokens ≡ Some (a, rest) → IsWhole a tokens rest
unfolding fitting_at
fitting_takes tokens a rest e =
    let inner = went_on (formula_at 512 tokens) (λ r. if fits r.0 then Some r else None) (a, rest) e in
    let f = fitted inner.0.0 inner.0.1 a rest inner.2 in
    let w = formula_takes 512 tokens inner.0.0 inner.0.1 inner.1 in
    record {
      text = w.text;
      means = w.means ∙ f.1;
      spelled = w.spelled ∙ ap (λ (ts : List Token). formula_tokens w.text ++ ts) f.2;
      written = record { grouped = w.grouped; nested = omega (arith, w.nested); fitting = subst (λ (b : FormulaTree). fits b ≡ true) (sym w.means) f.0 };
    }

fitting_again : (t : FormulaText) (rest : List Token) → IsFormula t → after_implies rest ≡ None → fitting_at (formula_tokens t ++ rest) ≡ Some (formula_of t, rest)
unfolding fitting_at
fitting_again t rest w last = rw ((formula_read t w.grouped).formula 512 rest w.nested last, w.fitting) refl

-- ---- proofs

-- the tokens are those of a written proof of at most so many levels, and more after them
record IsWrittenProof (levels hypotheses : ℕ) (p : ProofTree) (tokens rest : List Token) : Type 0 where
  text : ProofText
  means : proof_of hypotheses text ≡ Some p
  spelled : tokens ≡ proof_tokens text ++ rest
  formulas : HasFormulas text
  nested : proof_nesting text ≤ levels

abbrev TakesProof : ℕ → ℕ → (List Token → Read ProofTree) → Type 0
TakesProof levels hypotheses read = (tokens : List Token) (p : ProofTree) (rest : List Token) → read tokens ≡ Some (p, rest) → IsWrittenProof levels hypotheses p tokens rest

hypothesis_takes : (levels hypotheses k : ℕ) (more : List Token) (p : ProofTree) (rest : List Token) → hypothesis_at hypotheses (token.Number k ∷ more) ≡ Some (p, rest) → IsWrittenProof (suc levels) hypotheses p (token.Hash ∷ token.Number k ∷ more) rest
hypothesis_takes levels hypotheses k more p rest e = by (nat_lt k hypotheses) refl e where
  by : (t : Bool) → nat_lt k hypotheses ≡ t → ◌≡◌ {A = Read ProofTree} (if t then Some (hypothesis (hypotheses - 1 - k), more) else None) (Some (p, rest)) → IsWrittenProof (suc levels) hypotheses p (token.Hash ∷ token.Number k ∷ more) rest
  by true known e =
      let parts = parts_of (hypothesis (hypotheses - 1 - k)) p more rest e in
      record {
        text = numbered k;
        means = rw known (ap (λ (q : ProofTree). Some q) parts.0);
        spelled = ap (λ (ts : List Token). token.Hash ∷ token.Number k ∷ ts) parts.1;
        formulas = tt;
        nested = omega arith;
      }
  by false known e = absurd (cc)

hash_takes : (levels hypotheses : ℕ) (more : List Token) (p : ProofTree) (rest : List Token) → hypothesis_at hypotheses more ≡ Some (p, rest) → IsWrittenProof (suc levels) hypotheses p (token.Hash ∷ more) rest
hash_takes levels hypotheses (token.Number k ∷ more) p rest e = hypothesis_takes levels hypotheses k more p rest e
hash_takes levels hypotheses tokens p rest e = absurd (cc)

-- the last part, up to its end
ended_takes : (make : ProofTree → ProofTree) (read : Read ProofTree) (p : ProofTree) (rest : List Token) → ended make read ≡ Some (p, rest) → (q : ProofTree) × (read ≡ Some (q, token.Close ∷ rest)) × (make q ≡ p)
ended_takes make read p rest e =
    let inner = went_on read (λ r. after_close r.1 >>= (λ more. Some (make r.0, more))) (p, rest) e in
    let closing = went_on (after_close inner.0.1) (λ more. Some (make inner.0.0, more)) (p, rest) inner.2 in
    let parts = parts_of (make inner.0.0) p closing.0 rest closing.2 in
    let close : inner.0.1 ≡ token.Close ∷ rest = close_is inner.0.1 closing.0 closing.1 ∙ ap (λ (ts : List Token). token.Close ∷ ts) parts.1 in
    (inner.0.0, inner.1 ∙ ap (λ (ts : List Token). Some (inner.0.0, ts)) close, parts.0)

-- two parts with a comma between them and an end
regrouped_tail : (front more rest : List Token) → (front ++ (token.Comma ∷ (more ++ (token.Close ∷ [])))) ++ rest ≡ front ++ (token.Comma ∷ (more ++ (token.Close ∷ rest)))
regrouped_tail front more rest =
    append_assoc front (token.Comma ∷ (more ++ (token.Close ∷ []))) rest ∙ ap (λ (ts : List Token). front ++ (token.Comma ∷ ts)) (append_assoc more (token.Close ∷ []) rest)

regrouped : (first : Token) (front more rest : List Token) → (first ∷ token.Open ∷ (front ++ (token.Comma ∷ (more ++ (token.Close ∷ []))))) ++ rest ≡ first ∷ token.Open ∷ (front ++ (token.Comma ∷ (more ++ (token.Close ∷ rest))))
regrouped first front more rest = ap (λ (ts : List Token). first ∷ token.Open ∷ ts) (regrouped_tail front more rest)

lambda_takes : (levels hypotheses : ℕ) (proof : List Token → Read ProofTree) → TakesProof levels (suc hypotheses) proof → (tokens : List Token) (p : ProofTree) (rest : List Token) → lambda_by proof tokens ≡ Some (p, rest) → IsWrittenProof (suc levels) hypotheses p (token.Lam ∷ tokens) rest
lambda_takes levels hypotheses proof t tokens p rest e =
    let opening = went_on (after_open tokens) (λ left. fitting_at left >>= (λ a. after_comma a.1 >>= (λ more. ended (λ q. lambda a.0 q) (proof more)))) (p, rest) e in
    let assumed = went_on (fitting_at opening.0) (λ a. after_comma a.1 >>= (λ more. ended (λ q. lambda a.0 q) (proof more))) (p, rest) opening.2 in
    let parting = went_on (after_comma assumed.0.1) (λ more. ended (λ q. lambda assumed.0.0 q) (proof more)) (p, rest) assumed.2 in
    let part = ended_takes (λ q. lambda assumed.0.0 q) (proof parting.0) p rest parting.2 in
    let a = fitting_takes opening.0 assumed.0.0 assumed.0.1 assumed.1 in
    let q = t parting.0 part.0 (token.Close ∷ rest) part.1 in
    let behind : assumed.0.1 ≡ token.Comma ∷ (proof_tokens q.text ++ (token.Close ∷ rest)) = comma_is assumed.0.1 parting.0 parting.1 ∙ ap (λ (ts : List Token). token.Comma ∷ ts) q.spelled in
    let whole : tokens ≡ token.Open ∷ (formula_tokens a.text ++ (token.Comma ∷ (proof_tokens q.text ++ (token.Close ∷ rest)))) =
    open_is tokens opening.0 opening.1 ∙ ap (λ (ts : List Token). token.Open ∷ ts) (a.spelled ∙ ap (λ (ts : List Token). formula_tokens a.text ++ ts) behind) in
    record {
      text = abstraction a.text q.text;
      means = rw q.means (ap (λ (b : FormulaTree). Some (lambda b part.0)) a.means ∙ ap (λ (r : ProofTree). Some r) part.2);
      spelled = ap (λ (ts : List Token). token.Lam ∷ ts) whole ∙ sym (regrouped token.Lam (formula_tokens a.text) (proof_tokens q.text) rest);
      formulas = (a.written, q.formulas);
      nested = omega (arith, q.nested);
    }

application_takes : (levels hypotheses : ℕ) (proof : List Token → Read ProofTree) → TakesProof levels hypotheses proof → (tokens : List Token) (p : ProofTree) (rest : List Token) → application_by proof tokens ≡ Some (p, rest) → IsWrittenProof (suc levels) hypotheses p (token.App ∷ tokens) rest
application_takes levels hypotheses proof t tokens p rest e =
    let opening = went_on (after_open tokens) (λ left. proof left >>= (λ f. after_comma f.1 >>= (λ more. ended (λ q. application f.0 q) (proof more)))) (p, rest) e in
    let applied_one = went_on (proof opening.0) (λ f. after_comma f.1 >>= (λ more. ended (λ q. application f.0 q) (proof more))) (p, rest) opening.2 in
    let parting = went_on (after_comma applied_one.0.1) (λ more. ended (λ q. application applied_one.0.0 q) (proof more)) (p, rest) applied_one.2 in
    let part = ended_takes (λ q. application applied_one.0.0 q) (proof parting.0) p rest parting.2 in
    let f = t opening.0 applied_one.0.0 applied_one.0.1 applied_one.1 in
    let q = t parting.0 part.0 (token.Close ∷ rest) part.1 in
    let behind : applied_one.0.1 ≡ token.Comma ∷ (proof_tokens q.text ++ (token.Close ∷ rest)) = comma_is applied_one.0.1 parting.0 parting.1 ∙ ap (λ (ts : List Token). token.Comma ∷ ts) q.spelled in
    let whole : tokens ≡ token.Open ∷ (proof_tokens f.text ++ (token.Comma ∷ (proof_tokens q.text ++ (token.Close ∷ rest)))) =
    open_is tokens opening.0 opening.1 ∙ ap (λ (ts : List Token). token.Open ∷ ts) (f.spelled ∙ ap (λ (ts : List Token). proof_tokens f.text ++ ts) behind) in
    record {
      text = applied f.text q.text;
      means = rw (f.means, q.means) (ap (λ (r : ProofTree). Some r) part.2);
      spelled = ap (λ (ts : List Token). token.App ∷ ts) whole ∙ sym (regrouped token.App (proof_tokens f.text) (proof_tokens q.text) rest);
      formulas = (f.formulas, q.formulas);
      nested = omega (arith, f.nested, q.nested);
    }

proof_takes_by : (levels hypotheses : ℕ) (under beside : List Token → Read ProofTree) → TakesProof levels (suc hypotheses) under → TakesProof levels hypotheses beside → TakesProof (suc levels) hypotheses (proof_by hypotheses under beside)
proof_takes_by levels hypotheses under beside u b (token.Hash ∷ more) p rest e = hash_takes levels hypotheses more p rest e
proof_takes_by levels hypotheses under beside u b (token.Lam ∷ more) p rest e = lambda_takes levels hypotheses under u more p rest e
proof_takes_by levels hypotheses under beside u b (token.App ∷ more) p rest e = application_takes levels hypotheses beside b more p rest e
proof_takes_by levels hypotheses under beside u b tokens p rest e = absurd (cc)

proof_takes : (levels hypotheses : ℕ) → TakesProof levels hypotheses (proof_at levels hypotheses)
unfolding proof_at
proof_takes zero hypotheses tokens p rest e = absurd (cc)
proof_takes (suc levels) hypotheses tokens p rest e =
    proof_takes_by levels hypotheses (proof_at levels (suc hypotheses)) (proof_at levels hypotheses) (proof_takes levels (suc hypotheses)) (proof_takes levels hypotheses) tokens p rest e

-- the tree of a text that has one
abbrev ReadsBack : ProofText → Type 0
ReadsBack t = (levels hypotheses : ℕ) (p : ProofTree) (rest : List Token) → proof_nesting t ≤ levels → proof_of hypotheses t ≡ Some p → proof_at levels hypotheses (proof_tokens t ++ rest) ≡ Some (p, rest)

numbered_again : (k : ℕ) → ReadsBack (numbered k)
unfolding proof_at
numbered_again k zero hypotheses p rest nested e = absurd (omega (arith, nested))
numbered_again k (suc levels) hypotheses p rest nested e = by (nat_lt k hypotheses) e where
  by : (t : Bool) → ◌≡◌ {A = Option ProofTree} (if t then Some (hypothesis (hypotheses - 1 - k)) else None) (Some p) → ◌≡◌ {A = Read ProofTree} (if t then Some (hypothesis (hypotheses - 1 - k), rest) else None) (Some (p, rest))
  by true e = let same : hypothesis (hypotheses - 1 - k) ≡ p = cc in ap (λ (q : ProofTree). Some (q, rest)) same
  by false e = absurd (cc)

-- a mapped option that is there
pub mapped : {A B : Type 0} (f : A → B) (o : Option A) (b : B) → option_map f o ≡ Some b → (a : A) × (o ≡ Some a) × (f a ≡ b)
mapped f (Some a) b e = (a, refl, let same : f a ≡ b = cc in same)
mapped f None b e = absurd (cc)

pub both_there : (o q : Option ProofTree) (p : ProofTree) → both_applied o q ≡ Some p → (f : ProofTree) × (a : ProofTree) × (o ≡ Some f) × (q ≡ Some a) × (application f a ≡ p)
both_there (Some f) (Some a) p e = (f, a, refl, refl, let same : application f a ≡ p = cc in same)
both_there (Some f) None p e = absurd (cc)
both_there None q p e = absurd (cc)

abstraction_again : (a : FormulaText) (t : ProofText) → IsFormula a → ReadsBack t → ReadsBack (abstraction a t)
unfolding proof_at
abstraction_again a t w r zero hypotheses p rest nested e = absurd (omega (arith, nested))
abstraction_again a t w r (suc levels) hypotheses p rest nested e =
    let part = mapped (λ q. lambda (formula_of a) q) (proof_of (suc hypotheses) t) p e in
    rw (
      regrouped_tail (formula_tokens a) (proof_tokens t) rest,
      fitting_again a (token.Comma ∷ (proof_tokens t ++ (token.Close ∷ rest))) w refl,
      r levels (suc hypotheses) part.0 (token.Close ∷ rest) (omega (arith, nested)) part.1,
    ) (ap (λ (q : ProofTree). Some (q, rest)) part.2)

applied_again : (f t : ProofText) → ReadsBack f → ReadsBack t → ReadsBack (applied f t)
unfolding proof_at
applied_again f t q r zero hypotheses p rest nested e = absurd (omega (arith, nested))
applied_again f t q r (suc levels) hypotheses p rest nested e =
    let part = both_there (proof_of hypotheses f) (proof_of hypotheses t) p e in
    rw (
      regrouped_tail (proof_tokens f) (proof_tokens t) rest,
      q levels hypotheses part.0 (token.Comma ∷ (proof_tokens t ++ (token.Close ∷ rest))) (omega (arith, nested)) part.2,
      r levels hypotheses part.1 (token.Close ∷ rest) (omega (arith, nested)) part.3,
    ) (ap (λ (x : ProofTree). Some (x, rest)) part.4)

proof_again : (t : ProofText) → HasFormulas t → ReadsBack t
proof_again (numbered k) h = numbered_again k
proof_again (abstraction a t) h = abstraction_again a t h.0 (proof_again t h.1)
proof_again (applied f t) h = applied_again f t (proof_again f h.0) (proof_again t h.1)

-- ---- lines

-- the tokens are those of a line as it may be written, which means this
pub record IsWrittenLine (opened : Option OpenHole) (given : List Token) (tree : LineTree) : Type 0 where
  pub text : LineText
  pub written : IsLine text
  pub tokens : line_tokens text ≡ given
  pub means : line_of opened text ≡ Some tree

ended_all : (tokens : List Token) {A : Type 0} (a b : A) → whole a tokens ≡ Some b → (tokens ≡ []) × (a ≡ b)
ended_all [] a b e = (refl, let same : a ≡ b = cc in same)
ended_all (t ∷ tokens) a b e = absurd (cc)

spec_takes : (opened : Option OpenHole) (tokens : List Token) (tree : LineTree) → spec_at tokens ≡ Some tree → IsWrittenLine opened (token.Spec ∷ tokens) tree
spec_takes opened tokens tree e =
    let one = went_on (after_open_brace tokens) (λ rest. fitting_at rest >>= (λ a. after_brace a.1 >>= (λ more. after_open_brace more >>= (λ again. spec_of a.0 (fitting_at again))))) tree e in
    let two = went_on (fitting_at one.0) (λ a. after_brace a.1 >>= (λ more. after_open_brace more >>= (λ again. spec_of a.0 (fitting_at again)))) tree one.2 in
    let three = went_on (after_brace two.0.1) (λ more. after_open_brace more >>= (λ again. spec_of two.0.0 (fitting_at again))) tree two.2 in
    let four = went_on (after_open_brace three.0) (λ again. spec_of two.0.0 (fitting_at again)) tree three.2 in
    let five = went_on (fitting_at four.0) (λ b. after_brace b.1 >>= (λ rest. whole (spec two.0.0 b.0) rest)) tree four.2 in
    let six = went_on (after_brace five.0.1) (λ rest. whole (spec two.0.0 five.0.0) rest) tree five.2 in
    let done = ended_all six.0 (spec two.0.0 five.0.0) tree six.2 in
    let pre = fitting_takes one.0 two.0.0 two.0.1 two.1 in
    let post = fitting_takes four.0 five.0.0 five.0.1 five.1 in
    let last : five.0.1 ≡ token.CloseBrace ∷ [] = brace_is five.0.1 six.0 six.1 ∙ ap (λ (ts : List Token). token.CloseBrace ∷ ts) done.0 in
    let second : three.0 ≡ token.OpenBrace ∷ (formula_tokens post.text ++ (token.CloseBrace ∷ [])) =
    open_brace_is three.0 four.0 four.1 ∙ ap (λ (ts : List Token). token.OpenBrace ∷ ts) (post.spelled ∙ ap (λ (ts : List Token). formula_tokens post.text ++ ts) last) in
    let first : two.0.1 ≡ token.CloseBrace ∷ token.OpenBrace ∷ (formula_tokens post.text ++ (token.CloseBrace ∷ [])) =
    brace_is two.0.1 three.0 three.1 ∙ ap (λ (ts : List Token). token.CloseBrace ∷ ts) second in
    let all : tokens ≡ token.OpenBrace ∷ (formula_tokens pre.text ++ (token.CloseBrace ∷ token.OpenBrace ∷ (formula_tokens post.text ++ (token.CloseBrace ∷ [])))) =
    open_brace_is tokens one.0 one.1 ∙ ap (λ (ts : List Token). token.OpenBrace ∷ ts) (pre.spelled ∙ ap (λ (ts : List Token). formula_tokens pre.text ++ ts) first) in
    record {
      text = spec_text pre.text post.text;
      written = (pre.written, post.written);
      tokens = ap (λ (ts : List Token). token.Spec ∷ ts) (sym all);
      means = ap (λ (a : FormulaTree). Some (spec a (formula_of post.text))) pre.means ∙ ap (λ (b : FormulaTree). Some (spec two.0.0 b)) post.means ∙ ap (λ (l : LineTree). Some l) done.1;
    }

-- a step whose tokens are these, behind the number of its hole
step_takes : (opened : Option OpenHole) (hole : ℕ) (tokens : List Token) (tree : LineTree) → step_at hole (hypotheses_at opened hole) tokens ≡ Some tree → IsWrittenLine opened (token.Number hole ∷ token.Colon ∷ tokens) tree
step_takes opened hole (token.Skip ∷ rest) tree e =
    let done = ended_all rest (skip hole) tree e in
    record { text = skip_text hole; written = tt; tokens = ap (λ (ts : List Token). token.Number hole ∷ token.Colon ∷ token.Skip ∷ ts) (sym done.0); means = ap (λ (l : LineTree). Some l) done.1 }
step_takes opened hole (token.Intro ∷ rest) tree e =
    let done = ended_all rest (intro hole) tree e in
    record { text = intro_text hole; written = tt; tokens = ap (λ (ts : List Token). token.Number hole ∷ token.Colon ∷ token.Intro ∷ ts) (sym done.0); means = ap (λ (l : LineTree). Some l) done.1 }
step_takes opened hole (token.Exact ∷ rest) tree e =
    let inner = went_on (proof_at 2048 (hypotheses_at opened hole) rest) (λ p. whole (exact hole p.0) p.1) tree e in
    let done = ended_all inner.0.1 (exact hole inner.0.0) tree inner.2 in
    let w = proof_takes 2048 (hypotheses_at opened hole) rest inner.0.0 inner.0.1 inner.1 in
    record {
      text = exact_text hole w.text;
      written = record { nested = w.nested; formulas = w.formulas };
      tokens = ap (λ (ts : List Token). token.Number hole ∷ token.Colon ∷ token.Exact ∷ ts) (sym (w.spelled ∙ ap (λ (ts : List Token). proof_tokens w.text ++ ts) done.0 ∙ append-nil (proof_tokens w.text)));
      means = rw w.means (ap (λ (l : LineTree). Some l) done.1);
    }
step_takes opened hole tokens tree e = absurd (cc)

pub line_takes : (opened : Option OpenHole) (tokens : List Token) (tree : LineTree) → line_at opened tokens ≡ Some tree → IsWrittenLine opened tokens tree
line_takes opened (token.Spec ∷ rest) tree e = spec_takes opened rest tree e
line_takes opened (token.Number hole ∷ rest) tree e =
    let inner = went_on (after_colon rest) (λ more. step_at hole (hypotheses_at opened hole) more) tree e in
    let w = step_takes opened hole inner.0 tree inner.2 in
    record { text = w.text; written = w.written; tokens = w.tokens ∙ ap (λ (ts : List Token). token.Number hole ∷ ts) (sym (colon_is rest inner.0 inner.1)); means = w.means }
line_takes opened (token.Export ∷ rest) tree e =
    let done = ended_all rest export tree e in
    record { text = export_text; written = tt; tokens = ap (λ (ts : List Token). token.Export ∷ ts) (sym done.0); means = ap (λ (l : LineTree). Some l) done.1 }
line_takes opened tokens tree e = absurd (cc)

pub line_again : (opened : Option OpenHole) (t : LineText) (tree : LineTree) → IsLine t → line_of opened t ≡ Some tree → line_at opened (line_tokens t) ≡ Some tree
line_again opened (spec_text pre post) tree w e =
    rw (
      fitting_again pre (token.CloseBrace ∷ token.OpenBrace ∷ (formula_tokens post ++ (token.CloseBrace ∷ []))) w.0 refl,
      fitting_again post (token.CloseBrace ∷ []) w.1 refl,
    ) e
line_again opened (skip_text hole) tree w e = e
line_again opened (intro_text hole) tree w e = e
line_again opened (exact_text hole t) tree w e =
    let part = mapped (λ q. exact hole q) (proof_of (hypotheses_at opened hole) t) tree e in
    let read : proof_at 2048 (hypotheses_at opened hole) (proof_tokens t) ≡ Some (part.0, []) =
    subst (λ (ts : List Token). proof_at 2048 (hypotheses_at opened hole) ts ≡ Some (part.0, [])) (append-nil (proof_tokens t)) (proof_again t w.formulas 2048 (hypotheses_at opened hole) part.0 [] w.nested part.1) in
    rw read (ap (λ (l : LineTree). Some l) part.2)
line_again opened export_text tree w e = e

-- what a line means is what is read
read_means : (opened : Option OpenHole) (line : List ℕ) (tree : LineTree) → Means opened line tree → line_at opened (scan 0 line) ≡ Some tree
read_means opened line tree m = ap (line_at opened) (sym m.tokens) ∙ line_again opened m.text tree m.written m.means

-- no token list that is not read is that of a line
pub unread_means : (opened : Option OpenHole) (stop : Stop) (fault : LineFault) (line : List ℕ) → fault ≡ fault_of stop → fault ≡ faults.Unread → Gives line_tree (Err stop) (line_at opened (scan 0 line)) → (tree : LineTree) → Means opened line tree → ⊥
unread_means opened stops.Unread fault line is unread none tree m =
    absurd (cc (sym none ∙ read_means opened line tree m))
unread_means opened stops.NoMemory fault line is unread none tree m = absurd (cc (sym unread ∙ is))

pub one_meaning : (opened : Option OpenHole) (line : List ℕ) (a b : LineTree) → Means opened line a → Means opened line b → a ≡ b
one_meaning opened line a b m n =
    let both : ◌≡◌ {A = Option LineTree} (Some a) (Some b) = sym (read_means opened line a m) ∙ read_means opened line b n in
    cc
