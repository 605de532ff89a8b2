-- The computed test of a ring equation tells whether it is one: only the products that occur have totals other than 0.
use Rattle.std.proofs.Common.{◌≡◌, ◌⊎◌, inl, inr, ⊎_elim, ◌+◌, ◌^◌, nat_lt, nat_le, pos, ◌+ℤ◌, Bool, true, false, ◌&&◌, if◌then◌else◌, [], ◌∷◌, refl, sym, subst, ◌∙◌}
use Rattle.std.proofs.lemmas.Bool.{and_parts, and_from, ltb-true, leb-true, lt-ltb, le-leb}
use Rattle.sorted_terms.specs.Tree.{TermTree}
use Rattle.sorted_terms.specs.Values.{same_integer}
use Rattle.sorted_terms.specs.Weights.{term_weight, term_expansions}
use Rattle.arith_axioms.specs.Polynomials.{Product, Polynomial, expansion, same_product, total_in, total, IsSamePolynomial}
use Rattle.arith_axioms.specs.Ring.{IsRingEquation}
use Rattle.arith_axioms.proofs.Totals.{products_same}
use Rattle.type_checker.specs.Rules.{same_total, same_totals, is_ring_equation}
use Rattle.type_checker.specs.SameLaws.{integer_is, integer_same}

-- a product does not occur, or its totals are the same
agreed : (s t : TermTree) (es : Polynomial) (p : Product) → same_totals s t es ≡ true → (total_in es p ≡ pos 0) ⊎ (total p s ≡ total p t)
agreed s t [] p e = inl refl
agreed s t ((c, q) ∷ es) p e = by_test (same_product p q) refl (agreed s t es p both.1)
  where
    both : (same_total s t q ≡ true) × (same_totals s t es ≡ true)
    both = and_parts (same_total s t q) (same_totals s t es) e

    by_test : (b : Bool) → same_product p q ≡ b → (total_in es p ≡ pos 0) ⊎ (total p s ≡ total p t) → ((if b then c +ℤ total_in es p else total_in es p) ≡ pos 0) ⊎ (total p s ≡ total p t)
    by_test true same h = inr (subst (λ r. total r s ≡ total r t) (sym (products_same p q same)) (integer_is (total q s) (total q t) both.0))
    by_test false other h = h

same_polynomial : (s t : TermTree) → same_totals s t (expansion s) ≡ true → same_totals s t (expansion t) ≡ true → IsSamePolynomial s t
same_polynomial s t e f p =
    ⊎_elim
    (λ (a : total p s ≡ pos 0). ⊎_elim (λ (b : total p t ≡ pos 0). a ∙ sym b) (λ (h : total p s ≡ total p t). h) (agreed s t (expansion t) p f))
    (λ (h : total p s ≡ total p t). h)
    (agreed s t (expansion s) p e)

totals_agree : (s t : TermTree) (es : Polynomial) → IsSamePolynomial s t → same_totals s t es ≡ true
totals_agree s t [] h = refl
totals_agree s t ((c, q) ∷ es) h =
    and_from (same_total s t q) (same_totals s t es) (subst (λ n. same_integer (total q s) n ≡ true) (h q) (integer_same (total q s))) (totals_agree s t es h)

pub ring_is : (s t : TermTree) → is_ring_equation s t ≡ true → IsRingEquation s t
unfolding is_ring_equation
ring_is s t e =
    let light = and_parts (nat_lt (term_weight s + term_weight t) (2 ^ 127)) (nat_le (term_expansions s + term_expansions t) 4096 && (same_totals s t (expansion s) && same_totals s t (expansion t))) e in
    let short = and_parts (nat_le (term_expansions s + term_expansions t) 4096) (same_totals s t (expansion s) && same_totals s t (expansion t)) light.1 in
    let same = and_parts (same_totals s t (expansion s)) (same_totals s t (expansion t)) short.1 in
    (record { room = ltb-true _ _ light.0; few = leb-true _ _ short.0 }, same_polynomial s t same.0 same.1)

pub is_ring : (s t : TermTree) → IsRingEquation s t → is_ring_equation s t ≡ true
unfolding is_ring_equation
is_ring s t h =
    and_from _ _ (lt-ltb _ _ h.0.room) (and_from _ _ (le-leb _ _ h.0.few) (and_from _ _ (totals_agree s t (expansion s) h.1) (totals_agree s t (expansion t) h.1)))

pub not_ring : (s t : TermTree) → (IsRingEquation s t → ⊥) → is_ring_equation s t ≡ false
not_ring s t h = by_test (is_ring_equation s t) refl
  where
    by_test : (b : Bool) → is_ring_equation s t ≡ b → is_ring_equation s t ≡ false
    by_test true e = absurd (h (ring_is s t e))
    by_test false e = e
