-- How large the trees are that texts mean.
use Rattle.std.proofs.Common.{◌≡◌, ℕ, ◌*◌, ◌≤◌, true, false, List, length, Option, Some, None, refl, ap, arith}
use Rattle.std.proofs.lemmas.Bool.{le-leb}
use Rattle.std.specs.Option.{option_map}
use Rattle.sorted_terms.specs.Tree.{TermTree}
use Rattle.sorted_terms.specs.Sorts.{term_size, term_depth}
use Rattle.formulas.specs.Tree.{FormulaTree}
use Rattle.formulas.specs.Sorts.{size, depth, fits}
use Rattle.ck_text.specs.Tokens.{scan, bare}
use Rattle.ck_text.specs.Texts.{Text, tokens, Bindings, term_of, formula_of}
use Rattle.ck_text.specs.Reading.{of_term, of_formula, Means}
use Rattle.ck_text.proofs.Smalls.{scan_length}
use Rattle.ck_text.proofs.Depths.{term_levels_are, formula_levels_are}
use Rattle.ck_text.proofs.Outcomes.{bare_length}
use Rattle.ck_text.proofs.Nodes.{term_nodes, formula_nodes}

-- a text has no more tokens than bytes
few_tokens : (bytes : List ℕ) (a : Text) → tokens a ≡ bare (scan 0 bytes) → length (tokens a) ≤ length bytes
few_tokens bytes a e = omega (arith, ap length e, bare_length (scan 0 bytes), scan_length 0 bytes)

the_term : (o : Option TermTree) (t : TermTree) → option_map of_term o ≡ Some (of_term t) → o ≡ Some t
the_term (Some u) t e = cc
the_term None t e = absurd (cc)

the_formula : (o : Option FormulaTree) (a : FormulaTree) → option_map of_formula o ≡ Some (of_formula a) → o ≡ Some a
the_formula (Some b) a e = cc
the_formula None a e = absurd (cc)

module _ (limit most : ℕ) (scope : Bindings) (bytes : List ℕ) where
  pub term_extent : (t : TermTree) → Means limit most true scope bytes (of_term t) → (term_size t ≤ length bytes) × (term_depth t ≤ most)
  term_extent t m =
      let e : term_of scope m.0 ≡ Some t = the_term (term_of scope m.0) t m.3 in
      (omega (arith, term_nodes scope m.0 t e, few_tokens bytes m.0 m.1.1), omega (arith, term_levels_are scope m.0 t e, m.2))

  pub formula_extent : (a : FormulaTree) → Means limit most false scope bytes (of_formula a) → (size a ≤ 2 * length bytes) × (depth a ≤ most)
  formula_extent a m =
      let e : formula_of scope m.0 ≡ Some a = the_formula (formula_of scope m.0) a m.3 in
      (omega (arith, formula_nodes scope m.0 a e, few_tokens bytes m.0 m.1.1), omega (arith, formula_levels_are scope m.0 a e, m.2))

pub small_fits : (a : FormulaTree) (bytes : ℕ) → size a ≤ 2 * bytes → bytes ≤ 8192 → depth a ≤ 256 → fits a ≡ true
unfolding fits
small_fits a bytes few short low = rw (le-leb (size a) 16384 (omega (arith, few, short)), le-leb (depth a) 256 low) refl
