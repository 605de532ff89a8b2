-- What each step of the reader of proofs keeps: a quantifier that is read in part may still open a level, and each
-- rule adds at most one variable and one hypothesis.
use Rattle.std.proofs.Common.{◌≡◌, ℕ, zero, suc, ◌+◌, ◌≤◌, nat_lt, if◌then◌else◌, Bool, true, false, List, [], ◌∷◌, length, slice_get, Option, Some, None, refl, subst, arith}
use Rattle.std.specs.Option.{option_map}
use Rattle.ck_base.specs.declared.limits.TheConstants.{NESTING, FORMULA_DEPTH, PROOF_DEPTH}
use Rattle.ck_text.specs.declared.head.Head.{Head}
use Rattle.ck_text.specs.declared.head.Head.TheVariants as heads
use Rattle.ck_text.specs.declared.token.Mark.TheVariants as marks
use Rattle.ck_text.specs.Tokens.{Token, Placed}
use Rattle.ck_text.specs.Tokens as token
use Rattle.ck_text.specs.Texts.{Bindings}
use Rattle.ck_text.specs.Items.{Item}
use Rattle.ck_text.specs.Items as expression
use Rattle.ck_text.specs.ProofTexts.{Kind, a_sort, a_number, a_term, a_formula, a_proof, kinds, ProofScope, Part}
use Rattle.ck_text.specs.ProofMachine.{head_of}
use Rattle.ck_text.specs.ProofItems.{Frame, State, expecting, marked, opening, within, complete, asked, scope_in, proof_scope, bindings, guarded, begins_proof, begins_expression, begins_sort, begins_number, begins, entered, next_argument, closes, separated, ends, inside, opens, numbers_mark, step}
use Rattle.ck_text.specs.ProofViews.{HasRoom, variables_around, hypotheses_around}
use Rattle.ck_text.proofs.Rooms.{room_kept}

-- # Kinds

-- the argument stands under at most one further variable and one further hypothesis
abbrev Slight : Kind → Type 0
Slight (a_proof v h) = (v ≤ 1) × (h ≤ 1)
Slight k = Unit {0}

abbrev AllSlight : List Kind → Type 0
AllSlight [] = Unit {0}
AllSlight (k ∷ ks) = Slight k × AllSlight ks

none : (0 ≤ 1) × (0 ≤ 1)
none = (omega arith, omega arith)

both : (1 ≤ 1) × (1 ≤ 1)
both = (omega arith, omega arith)

assumes : (0 ≤ 1) × (1 ≤ 1)
assumes = (omega arith, omega arith)

binds : (1 ≤ 1) × (0 ≤ 1)
binds = (omega arith, omega arith)

slight_kinds : (h : Head) → AllSlight (kinds h)
slight_kinds heads.Lam = (tt, (assumes, tt))
slight_kinds heads.App = (none, (none, tt))
slight_kinds heads.Gen = (tt, (binds, tt))
slight_kinds heads.Inst = (none, (tt, tt))
slight_kinds heads.Pair = (none, (none, tt))
slight_kinds heads.First = (none, tt)
slight_kinds heads.Second = (none, tt)
slight_kinds heads.Left = (tt, (none, tt))
slight_kinds heads.Right = (tt, (none, tt))
slight_kinds heads.Cases = (none, (assumes, (assumes, tt)))
slight_kinds heads.Pack = (tt, (tt, (tt, (none, tt))))
slight_kinds heads.Unpack = (none, (both, tt))
slight_kinds heads.Absurd = (tt, (none, tt))
slight_kinds heads.Stable = (none, tt)
slight_kinds heads.Refl = (tt, tt)
slight_kinds heads.Rewrite = (tt, (none, (none, tt)))
slight_kinds heads.Axiom = (tt, tt)
slight_kinds heads.Induct = (tt, tt)
slight_kinds heads.Compute = (tt, tt)
slight_kinds heads.Ring = (tt, (tt, tt))

abbrev AnySlight : Option Kind → Type 0
AnySlight (Some k) = Slight k
AnySlight None = Unit {0}

slight_at : (ks : List Kind) (n : ℕ) → AllSlight ks → AnySlight (slice_get ks n)
slight_at [] zero h = tt
slight_at [] (suc n) h = tt
slight_at (k ∷ ks) zero h = h.0
slight_at (k ∷ ks) (suc n) h = slight_at ks n h.1

scope_grows : (o : Option Kind) (scope : ProofScope) → AnySlight o
    → ((scope_in o scope).variables ≤ suc scope.variables) × ((scope_in o scope).hypotheses ≤ suc scope.hypotheses)
scope_grows (Some (a_proof v h)) scope s = (omega (arith, s.0), omega (arith, s.1))
scope_grows (Some a_sort) scope s = (omega arith, omega arith)
scope_grows (Some a_number) scope s = (omega arith, omega arith)
scope_grows (Some a_term) scope s = (omega arith, omega arith)
scope_grows (Some (a_formula v)) scope s = (omega arith, omega arith)
scope_grows None scope s = (omega arith, omega arith)

-- # The stack

-- each rule has at most one variable and one hypothesis more than there are rules around it
abbrev pub Lean : ProofScope → List Frame → Type 0
Lean outer [] = Unit {0}
Lean outer (f ∷ stack) = (f.scope.variables ≤ outer.variables + length stack) × (f.scope.hypotheses ≤ outer.hypotheses + length stack) × Lean outer stack

pub lean_around : (outer : ProofScope) (stack : List Frame) → Lean outer stack
    → (variables_around outer stack ≤ outer.variables + length stack) × (hypotheses_around outer stack ≤ outer.hypotheses + length stack)
lean_around outer [] h = (omega arith, omega arith)
lean_around outer (f ∷ stack) h = (omega (arith, h.0), omega (arith, h.1))

lean_entered : (outer : ProofScope) (stack : List Frame) → Lean outer stack
    → ((proof_scope outer stack).variables ≤ outer.variables + length stack) × ((proof_scope outer stack).hypotheses ≤ outer.hypotheses + length stack)
lean_entered outer [] h = (omega arith, omega arith)
lean_entered outer (f ∷ stack) h =
    let g = scope_grows (asked (f ∷ stack)) f.scope (slight_at (kinds f.head) (length f.done) (slight_kinds f.head)) in
    (omega (arith, g.0, h.0), omega (arith, g.1, h.1))

abbrev pub stack_of : State → List Frame
stack_of (expecting stack) = stack
stack_of (marked hole left stack) = stack
stack_of (opening h stack) = stack
stack_of (within inner left stack) = stack
stack_of (complete stack part) = stack

-- # Steps

module _ (holes : Bool) (outer : ProofScope) where
  abbrev pub Fine : State → Type 0
  Fine st = Lean outer (stack_of st) × HasRoom st

  goes : (to next : State) → Some to ≡ Some next → Fine to → Fine next
  goes to next e h = let same : to ≡ next = cc in subst Fine same h

  goes_guarded : (test : Bool) (to next : State) → guarded test to ≡ Some next → Fine to → Fine next
  goes_guarded true to next e h = goes to next e h
  goes_guarded false to next e h = absurd (cc)

  named_fine : (o : Option Head) (stack : List Frame) (next : State) → Lean outer stack → option_map (λ h. opening h stack) o ≡ Some next → Fine next
  named_fine (Some h) stack next l e = goes (opening h stack) next e (l, tt)
  named_fine None stack next l e = absurd (cc)

  proof_fine : (stack : List Frame) (left : ℕ) (t : Token) (next : State) → Lean outer stack → begins_proof holes stack left t ≡ Some next → Fine next
  proof_fine stack left (token.mark marks.Hash) next l e = goes (marked false left stack) next e (l, tt)
  proof_fine stack left (token.mark marks.Question) next l e = goes_guarded holes (marked true left stack) next e (l, tt)
  proof_fine stack left (token.word bytes) next l e = named_fine (head_of bytes) stack next l e
  proof_fine stack left t next l e = absurd (cc)

  expression_fine : (asks : Bool) (scope : Bindings) (stack : List Frame) (p : Placed) (next : State) → Lean outer stack
      → begins_expression NESTING FORMULA_DEPTH asks scope stack p ≡ Some next → Fine next
  expression_fine asks scope stack p next l e = by (expression.step NESTING FORMULA_DEPTH asks scope (expression.wanting []) p.token) refl e where
    by : (o : Option expression.State) → expression.step NESTING FORMULA_DEPTH asks scope (expression.wanting []) p.token ≡ o
        → option_map (λ inner. within inner p.left stack) o ≡ Some next → Fine next
    by (Some inner) is e = goes (within inner p.left stack) next e (l, room_kept asks scope (expression.wanting []) p.token inner tt is)
    by None is e = absurd (cc)

  sort_fine : (stack : List Frame) (t : Token) (next : State) → Lean outer stack → begins_sort stack t ≡ Some next → Fine next
  sort_fine stack (token.sort s) next l e = goes _ next e (l, tt)
  sort_fine stack t next l e = absurd (cc)

  number_fine : (stack : List Frame) (t : Token) (next : State) → Lean outer stack → begins_number stack t ≡ Some next → Fine next
  number_fine stack (token.number n) next l e = goes_guarded _ _ next e (l, tt)
  number_fine stack t next l e = absurd (cc)

  guarded_fine : (test : Bool) (stack : List Frame) (left : ℕ) (t : Token) (next : State) → Lean outer stack
      → (if test then begins_proof holes stack left t else None) ≡ Some next → Fine next
  guarded_fine true stack left t next l e = proof_fine stack left t next l e
  guarded_fine false stack left t next l e = absurd (cc)

  begins_fine : (o : Option Kind) (stack : List Frame) (p : Placed) (next : State) → Lean outer stack
      → begins NESTING PROOF_DEPTH FORMULA_DEPTH holes outer o stack p ≡ Some next → Fine next
  begins_fine (Some a_sort) stack p next l e = sort_fine stack p.token next l e
  begins_fine (Some a_number) stack p next l e = number_fine stack p.token next l e
  begins_fine (Some a_term) stack p next l e = expression_fine true (bindings outer stack) stack p next l e
  begins_fine (Some (a_formula v)) stack p next l e = expression_fine false (bindings outer stack) stack p next l e
  begins_fine (Some (a_proof v h)) stack p next l e = guarded_fine (nat_lt (length stack) PROOF_DEPTH) stack p.left p.token next l e
  begins_fine None stack p next l e = absurd (cc)

  argument_fine : (f : Frame) (done : List Part) (stack : List Frame) (o : Option Kind) (next : State) → Lean outer (f ∷ stack)
      → next_argument f done stack o ≡ Some next → Fine next
  argument_fine f done stack (Some k) next l e = goes _ next e (l, tt)
  argument_fine f done stack None next l e = absurd (cc)

  closes_fine : (f : Frame) (done : List Part) (stack : List Frame) (o : Option Kind) (next : State) → Lean outer (f ∷ stack)
      → closes f done stack o ≡ Some next → Fine next
  closes_fine f done stack None next l e = goes _ next e (l.2, tt)
  closes_fine f done stack (Some k) next l e = absurd (cc)

  separated_fine : (stack : List Frame) (part : Part) (t : Token) (next : State) → Lean outer stack → separated stack part t ≡ Some next → Fine next
  separated_fine [] part t next l e = absurd (cc)
  separated_fine (f ∷ stack) part (token.mark marks.Comma) next l e = argument_fine f _ stack _ next l e
  separated_fine (f ∷ stack) part (token.mark marks.Close) next l e = closes_fine f _ stack _ next l e
  separated_fine (f ∷ stack) part t next l e = absurd (cc)

  ends_fine : (asks : Bool) (o : Option Item) (stack : List Frame) (t : Token) (next : State) → Lean outer stack → ends asks o stack t ≡ Some next → Fine next
  ends_fine asks (Some i) stack t next l e = separated_fine stack _ t next l e
  ends_fine asks None stack t next l e = absurd (cc)

  inside_fine : (asks : Bool) (scope : Bindings) (inner : expression.State) (left : ℕ) (stack : List Frame) (t : Token) (next : State) → Fine (within inner left stack)
      → inside FORMULA_DEPTH asks (expression.step NESTING FORMULA_DEPTH asks scope inner t) inner left stack t ≡ Some next → Fine next
  inside_fine asks scope inner left stack t next h e = by (expression.step NESTING FORMULA_DEPTH asks scope inner t) refl e where
    by : (o : Option expression.State) → expression.step NESTING FORMULA_DEPTH asks scope inner t ≡ o → inside FORMULA_DEPTH asks o inner left stack t ≡ Some next → Fine next
    by (Some goes_on) is e = goes (within goes_on left stack) next e (h.0, room_kept asks scope inner t goes_on h.1 is)
    by None is e = ends_fine asks (expression.finished FORMULA_DEPTH inner) stack t next h.0 e

  opens_fine : (h : Head) (stack : List Frame) (t : Token) (next : State) → Lean outer stack → opens outer h stack t ≡ Some next → Fine next
  opens_fine h stack (token.mark marks.Open) next l e = let g = lean_entered outer stack l in goes (entered outer h stack) next e ((g.0, g.1, l), tt)
  opens_fine h stack t next l e = absurd (cc)

  marks_fine : (hole : Bool) (stack : List Frame) (t : Token) (next : State) → Lean outer stack → numbers_mark outer hole stack t ≡ Some next → Fine next
  marks_fine hole stack (token.number k) next l e = goes_guarded _ _ next e (l, tt)
  marks_fine hole stack t next l e = absurd (cc)

  pub fine_kept : (st : State) (p : Placed) (next : State) → Fine st → step NESTING PROOF_DEPTH FORMULA_DEPTH holes outer st p ≡ Some next → Fine next
  fine_kept (expecting stack) p next h e = begins_fine (asked stack) stack p next h.0 e
  fine_kept (marked hole left stack) p next h e = marks_fine hole stack p.token next h.0 e
  fine_kept (opening head stack) p next h e = opens_fine head stack p.token next h.0 e
  fine_kept (within inner left stack) p next h e = inside_fine _ (bindings outer stack) inner left stack p.token next h e
  fine_kept (complete stack part) p next h e = separated_fine stack part p.token next h.0 e
