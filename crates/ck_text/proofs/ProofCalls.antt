-- How many rules are open, and what there is space for.
use Rattle.std.proofs.Common.{◌≡◌, ℕ, ◌+◌, ◌≤◌, ◌<◌, ◌^◌, List, [], ◌∷◌, length, map, None, refl, ◌∙◌, arith}
use Rattle.std.proofs.lemmas.List.{length-reverse, length-map}
use Rattle.ck_text.specs.declared.proof_calls.Call.{Call}
use Rattle.ck_text.specs.declared.proof_reader.Stage.{Stage}
use Rattle.ck_text.specs.declared.proof_reader.Stage.TheVariants as stages
use Rattle.ck_text.specs.ProofTexts.{ProofScope, Part}
use Rattle.ck_text.specs.ProofItems.{Frame, complete, finished}
use Rattle.ck_text.specs.ProofViews.{part, call, calls, state, variables_around, HasSpace}
use Rattle.ck_text.proofs.ProofRooms.{Lean, lean_around}

pub calls_length : (stack : List Call) → length (calls stack) ≡ length stack
calls_length stack = length-reverse (map call stack) ∙ length-map stack call

module _ (outer : ProofScope) (stack : List Call) (most : ℕ) (lean : Lean outer (calls stack)) where
  pub has_space : 1 + length stack ≤ most → most + outer.variables < 2 ^ 32 → most + outer.hypotheses < 2 ^ 32 → HasSpace outer (calls stack)
  has_space few variables hypotheses =
      let around = lean_around outer (calls stack) lean in
      (omega (arith, few, variables, around.0, calls_length stack), omega (arith, few, hypotheses, around.1, calls_length stack))

  pub has_indices : (held : ℕ) → 1 + (held + length stack) ≤ most → most + outer.variables < 2 ^ 32 → held + variables_around outer (calls stack) + 1 < 2 ^ 32
  has_indices held few variables = let around = lean_around outer (calls stack) lean in omega (arith, few, variables, around.0, calls_length stack)

no_end : (frames : List Frame) (x : Part) → 1 ≤ length frames → None ≡ finished (complete frames x)
no_end [] x some = absurd (omega (arith, some))
no_end (f ∷ frames) x some = refl

-- where a rule is open, no proof ends
pub not_finished : (stage : Stage) (stack : List Call) → 1 ≤ length stack → None ≡ finished (state stage stack)
not_finished stages.Expecting stack some = refl
not_finished (stages.Marked hole left) stack some = refl
not_finished (stages.Opening h) stack some = refl
not_finished (stages.Within i) stack some = refl
not_finished (stages.Complete x) stack some = no_end (calls stack) (part x) (omega (arith, some, calls_length stack))
