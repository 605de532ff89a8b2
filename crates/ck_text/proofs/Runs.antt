-- The run of the code goes on by one token.
use Rattle.std.proofs.Common.{◌≡◌, ℕ, suc, ◌+◌, ◌-◌, ◌≤◌, Bool, List, [], ◌∷◌, length, map, take, drop, get_or, sym, subst, ap, arith, Option, Some}
use Rattle.std.proofs.lemmas.List.{take_all}
use Rattle.ck_base.specs.declared.limits.TheConstants.{NESTING, FORMULA_DEPTH}
use Rattle.ck_text.specs.declared.scan.Placed.{Placed}
use Rattle.ck_text.specs.Texts.{Bindings, first_of}
use Rattle.ck_text.specs.Items.{State, step, unknown_here, after, run}
use Rattle.ck_text.specs.Views as views
use Rattle.ck_text.proofs.Rooms.{room_kept}

module _ (asked : Bool) (scope : Bindings) where
  -- what holds after a step, with the tokens that are left
  abbrev pub Goes : List Placed → Placed → State → State → Option ℕ → List Placed → Type 0
  Goes rest p st next unknown left =
      (run NESTING FORMULA_DEPTH asked scope (map views.placed rest) st unknown
      ≡ run NESTING FORMULA_DEPTH asked scope (map views.placed left) next (first_of unknown (unknown_here scope st (views.token p.token) p.left)))
      × views.AreSmall (map views.placed left) × views.HasRoom next × (1 + length left ≡ length rest)

  pub run_goes : (rest : List Placed) (other : Placed) (st next : State) (unknown : Option ℕ) → 1 ≤ length rest → views.AreSmall (map views.placed rest) → views.HasRoom st
      → step NESTING FORMULA_DEPTH asked scope st (views.token (get_or rest 0 other).token) ≡ Some next
      → Goes rest (get_or rest 0 other) st next unknown (take (length rest - 1) (drop 1 rest))
  run_goes [] other st next unknown some small room e = absurd (omega (arith, some))
  run_goes (p ∷ more) other st next unknown some small room e =
      let all : take (suc (length more) - 1) more ≡ more = take_all (suc (length more) - 1) more (omega arith) in
      subst (λ x. Goes (p ∷ more) p st next unknown x) (sym all) (
        ap (λ o. after o p.left (λ next. run NESTING FORMULA_DEPTH asked scope (map views.placed more) next (first_of unknown (unknown_here scope st (views.token p.token) p.left)))) e,
        small.1,
        room_kept asked scope st (views.token p.token) next room e,
        omega arith,
      )
