-- A quantifier that is read in part may still open a level: each step keeps this.
use Rattle.std.proofs.Common.{◌≡◌, ◌<◌, Bool, true, false, ◌&&◌, List, [], ◌∷◌, refl, subst, Some, None, nat_le, nat_lt}
use Rattle.std.proofs.lemmas.Bool.{and_parts, ltb-true}
use Rattle.ck_base.specs.declared.limits.TheConstants.{NESTING, FORMULA_DEPTH}
use Rattle.ck_text.specs.declared.token.Sign.TheVariants as sign
use Rattle.ck_text.specs.declared.token.Mark.TheVariants as marks
use Rattle.ck_text.specs.Tokens.{Token}
use Rattle.ck_text.specs.Tokens as token
use Rattle.ck_text.specs.Texts.{Lead, binder, lead_level, lead_on_terms, suits, Bindings}
use Rattle.ck_text.specs.Items.{Item, Frame, State, wanting, having, naming, named, sorting, sorted, want, asks, opened, may_lead, guarded, reduced, closes, closed_by, leading, operand, parenthesis, step}
use Rattle.ck_text.specs.Views.{HasRoom}

guard_passed : (test : Bool) (st next : State) → guarded test st ≡ Some next → (test ≡ true) × (st ≡ next)
guard_passed true st next e = (refl, cc)
guard_passed false st next e = absurd (cc)

goes : (to next : State) → Some to ≡ Some next → HasRoom to → HasRoom next
goes to next e h = let same : to ≡ next = cc in subst HasRoom same h

goes_guarded : (test : Bool) (to next : State) → guarded test to ≡ Some next → HasRoom to → HasRoom next
goes_guarded test to next e h = subst HasRoom (guard_passed test to next e).1 h

lead_room : (asked : Bool) (l : Lead) (stack : List Frame) → may_lead NESTING asked l stack ≡ true → opened stack < NESTING
lead_room asked l stack e = ltb-true (opened stack) NESTING (and_parts (nat_le (want stack) (lead_level l) && suits (asks asked stack) (lead_on_terms l)) (nat_lt (opened stack) NESTING) e).1

closes_room : (top : List Frame × Item) (next : State) → closes top ≡ Some next → HasRoom next
closes_room ([], i) next e = absurd (cc)
closes_room (f ∷ stack, i) next e = by f.held e where
  by : (held : _) → closed_by held stack i ≡ Some next → HasRoom next
  by (leading l) e = absurd (cc)
  by (operand o j) e = absurd (cc)
  by parenthesis e = goes (having stack _) next e tt

module _ (asked : Bool) (scope : Bindings) where
  pub room_kept : (st : State) (t : Token) (next : State) → HasRoom st → step NESTING FORMULA_DEPTH asked scope st t ≡ Some next → HasRoom next
  room_kept (wanting stack) (token.truth b) next h e = goes _ next e tt
  room_kept (wanting stack) (token.mark marks.Bottom) next h e = goes_guarded _ _ next e tt
  room_kept (wanting stack) (token.word bytes) next h e = goes _ next e tt
  room_kept (wanting stack) (token.number n) next h e = goes _ next e tt
  room_kept (wanting stack) (token.mark marks.Open) next h e = goes_guarded _ _ next e tt
  room_kept (wanting stack) (token.mark marks.Tilde) next h e = goes_guarded _ _ next e tt
  room_kept (wanting stack) (token.mark marks.Not) next h e = goes_guarded _ _ next e tt
  room_kept (wanting stack) (token.joining sign.Minus) next h e = goes_guarded _ _ next e tt
  room_kept (wanting stack) (token.quantifier q) next h e =
      let p = guard_passed (may_lead NESTING asked (binder q [] None) stack) (naming q stack) next e in
      subst HasRoom p.1 (lead_room asked (binder q [] None) stack p.0)
  room_kept (having stack i) (token.joining o) next h e = goes_guarded _ _ next e tt
  room_kept (having stack i) (token.mark marks.Close) next h e = closes_room (reduced FORMULA_DEPTH 0 stack i) next e
  room_kept (naming q stack) (token.word bytes) next h e = goes (named q bytes stack) next e h
  room_kept (named q bytes stack) (token.mark marks.Colon) next h e = goes (sorting q bytes stack) next e h
  room_kept (named q bytes stack) (token.mark marks.Dot) next h e = goes _ next e tt
  room_kept (sorting q bytes stack) (token.sort s) next h e = goes (sorted q bytes s stack) next e h
  room_kept (sorted q bytes s stack) (token.mark marks.Dot) next h e = goes _ next e tt
  room_kept st t next h e = absurd (cc)
