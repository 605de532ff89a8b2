-- The run of the reader of proofs goes on by one token.
use Rattle.std.proofs.Common.{◌≡◌, ℕ, suc, ◌+◌, ◌-◌, ◌≤◌, Bool, List, [], ◌∷◌, length, map, take, drop, get_or, sym, subst, ap, ◌∙◌, arith, Option, Some}
use Rattle.std.proofs.lemmas.List.{take_all}
use Rattle.ck_base.specs.declared.limits.TheConstants.{NESTING, FORMULA_DEPTH, PROOF_DEPTH}
use Rattle.ck_text.specs.declared.scan.Placed.{Placed}
use Rattle.ck_text.specs.Texts.{first_of}
use Rattle.ck_text.specs.Views as expression_views
use Rattle.ck_text.specs.ProofTexts.{ProofScope}
use Rattle.ck_text.specs.ProofItems.{State, step, deep_here, unknown_here, after, run}
use Rattle.ck_text.proofs.ProofRooms.{Fine, fine_kept}

module _ (holes : Bool) (outer : ProofScope) where
  -- what holds after a step, with the tokens that are left
  abbrev pub Goes : List Placed → (st next : State) → (deep unknown deep_now unknown_now : Option ℕ) → List Placed → Type 0
  Goes rest st next deep unknown deep_now unknown_now left =
      (run NESTING PROOF_DEPTH FORMULA_DEPTH holes outer (map expression_views.placed rest) st deep unknown
      ≡ run NESTING PROOF_DEPTH FORMULA_DEPTH holes outer (map expression_views.placed left) next deep_now unknown_now)
      × expression_views.AreSmall (map expression_views.placed left) × (1 + length left ≡ length rest) × Fine holes outer next

  pub run_goes : (rest : List Placed) (other : Placed) (st next : State) (deep unknown deep_now unknown_now : Option ℕ) → 1 ≤ length rest
      → expression_views.AreSmall (map expression_views.placed rest) → Fine holes outer st
      → step NESTING PROOF_DEPTH FORMULA_DEPTH holes outer st (expression_views.placed (get_or rest 0 other)) ≡ Some next
      → deep_now ≡ first_of deep (deep_here NESTING FORMULA_DEPTH outer st (expression_views.token (get_or rest 0 other).token))
      → unknown_now ≡ first_of unknown (unknown_here outer st (expression_views.placed (get_or rest 0 other)))
      → Goes rest st next deep unknown deep_now unknown_now (take (length rest - 1) (drop 1 rest))
  run_goes [] other st next deep unknown deep_now unknown_now some small fine e d u = absurd (omega (arith, some))
  run_goes (p ∷ more) other st next deep unknown deep_now unknown_now some small fine e d u =
      let all : take (suc (length more) - 1) more ≡ more = take_all (suc (length more) - 1) more (omega arith) in
      subst (λ x. Goes (p ∷ more) st next deep unknown deep_now unknown_now x) (sym all) (
        ap (λ o. after o p.left (λ next. run NESTING PROOF_DEPTH FORMULA_DEPTH holes outer (map expression_views.placed more) next
            (first_of deep (deep_here NESTING FORMULA_DEPTH outer st (expression_views.token p.token))) (first_of unknown (unknown_here outer st (expression_views.placed p))))) e
            ∙ (λ i. run NESTING PROOF_DEPTH FORMULA_DEPTH holes outer (map expression_views.placed more) next (sym d i) (sym u i)),
        small.1,
        omega arith,
        fine_kept holes outer st (expression_views.placed p) next fine e,
      )
