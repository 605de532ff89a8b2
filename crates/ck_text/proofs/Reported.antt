-- What the reader answers, in the words of what reading a text comes to.
use Rattle.std.proofs.Common.{◌≡◌, ℕ, Bool, List, Ok, Err, Result, subst, ap, ◌∙◌}
use Rattle.ck_base.specs.declared.limits.TheConstants.{NESTING, FORMULA_DEPTH}
use Rattle.ck_text.specs.declared.items.Item.{Item}
use Rattle.ck_text.specs.declared.text_fault.TextFault.{TextFault}
use Rattle.ck_text.specs.declared.text_fault.TextFault.TheVariants as faults
use Rattle.ck_text.specs.Texts.{Bindings}
use Rattle.ck_text.specs.Reading.{by_syntax, by_depth, by_name, Means, IsSyntaxFault, IsDepthFault, IsNameFault}
use Rattle.ck_text.specs.Items.{tree_asked, read_bytes}
use Rattle.ck_text.specs.Views.{Reads}
use Rattle.ck_text.specs.Views as views
use Rattle.ck_text.proofs.Outcomes.{reads_outcomes}

module _ (asked : Bool) (scope : Bindings) (bytes : List ℕ) (r : Result Item TextFault) (h : Reads asked r (read_bytes NESTING FORMULA_DEPTH asked scope bytes)) where
  comes_to : (answer : Result Item TextFault) → r ≡ answer → Reads asked answer (read_bytes NESTING FORMULA_DEPTH asked scope bytes)
  comes_to answer e = subst (λ x. Reads asked x (read_bytes NESTING FORMULA_DEPTH asked scope bytes)) e h

  pub tree_means : (i : Item) → r ≡ Ok i → Means NESTING FORMULA_DEPTH asked scope bytes (tree_asked asked (views.item i))
  tree_means i e = (reads_outcomes NESTING FORMULA_DEPTH asked scope bytes (Ok (tree_asked asked (views.item i)))).0 (comes_to (Ok i) e)

  pub syntax_fault : (found : TextFault) → r ≡ Err found → (column : ℕ) → found ≡ faults.Syntax column → IsSyntaxFault NESTING asked bytes column
  syntax_fault found is column e =
      (reads_outcomes NESTING FORMULA_DEPTH asked scope bytes (Err (by_syntax column))).0 (comes_to (Err (faults.Syntax column)) (is ∙ ap Err e))

  pub depth_fault : (found : TextFault) → r ≡ Err found → (column : ℕ) → found ≡ faults.Deep column → IsDepthFault NESTING FORMULA_DEPTH asked bytes column
  depth_fault found is column e =
      (reads_outcomes NESTING FORMULA_DEPTH asked scope bytes (Err (by_depth column))).0 (comes_to (Err (faults.Deep column)) (is ∙ ap Err e))

  pub name_fault : (found : TextFault) → r ≡ Err found → (column : ℕ) → found ≡ faults.Unknown column → IsNameFault NESTING FORMULA_DEPTH asked scope bytes column
  name_fault found is column e =
      (reads_outcomes NESTING FORMULA_DEPTH asked scope bytes (Err (by_name column))).0 (comes_to (Err (faults.Unknown column)) (is ∙ ap Err e))

-- an error is the same whatever it stands in place of
pub the_error : {A E : Type 0} (e f : E) → ◌≡◌ {A = Result A E} (Err e) (Err f) → e ≡ f
the_error e f h = cc
