-- Which rules take four arguments.
use Rattle.std.proofs.Common.{◌≡◌, [], ◌∷◌, None, refl}
use Rattle.ck_text.specs.declared.head.Head.{Head}
use Rattle.ck_text.specs.declared.head.Head.TheVariants as heads
use Rattle.ck_text.specs.ProofTexts.{Part, sort, number, term, formula, proof_term, built}

-- only `pack` does
pub only_pack : (h : Head) (x y z w : Part) → (h ≡ heads.Pack → ⊥) → None ≡ built h (x ∷ y ∷ z ∷ w ∷ [])
only_pack heads.Pack x y z w other = absurd (other refl)
only_pack heads.Lam (formula a) (proof_term p) z w other = refl
only_pack heads.App (proof_term p) (proof_term q) z w other = refl
only_pack heads.Gen (sort s) (proof_term p) z w other = refl
only_pack heads.Inst (proof_term p) (term t) z w other = refl
only_pack heads.Pair (proof_term p) (proof_term q) z w other = refl
only_pack heads.First (proof_term p) y z w other = refl
only_pack heads.Second (proof_term p) y z w other = refl
only_pack heads.Left (formula b) (proof_term p) z w other = refl
only_pack heads.Right (formula a) (proof_term p) z w other = refl
only_pack heads.Cases (proof_term p) (proof_term q) (proof_term r) w other = refl
only_pack heads.Unpack (proof_term p) (proof_term q) z w other = refl
only_pack heads.Absurd (formula a) (proof_term p) z w other = refl
only_pack heads.Stable (proof_term p) y z w other = refl
only_pack heads.Refl (term t) y z w other = refl
only_pack heads.Rewrite (formula a) (proof_term p) (proof_term q) w other = refl
only_pack heads.Axiom (number i) y z w other = refl
only_pack heads.Induct (formula a) y z w other = refl
only_pack heads.Compute (term t) y z w other = refl
only_pack heads.Ring (term s) (term t) z w other = refl
only_pack h x y z w other = refl

-- only these two take three
pub only_three : (h : Head) (x y z : Part) → (h ≡ heads.Cases → ⊥) → (h ≡ heads.Rewrite → ⊥) → None ≡ built h (x ∷ y ∷ z ∷ [])
only_three heads.Cases x y z cases rewrite = absurd (cases refl)
only_three heads.Rewrite x y z cases rewrite = absurd (rewrite refl)
only_three heads.Lam (formula a) (proof_term p) z cases rewrite = refl
only_three heads.App (proof_term p) (proof_term q) z cases rewrite = refl
only_three heads.Gen (sort s) (proof_term p) z cases rewrite = refl
only_three heads.Inst (proof_term p) (term t) z cases rewrite = refl
only_three heads.Pair (proof_term p) (proof_term q) z cases rewrite = refl
only_three heads.First (proof_term p) y z cases rewrite = refl
only_three heads.Second (proof_term p) y z cases rewrite = refl
only_three heads.Left (formula b) (proof_term p) z cases rewrite = refl
only_three heads.Right (formula a) (proof_term p) z cases rewrite = refl
only_three heads.Pack (sort s) (formula a) (term t) cases rewrite = refl
only_three heads.Unpack (proof_term p) (proof_term q) z cases rewrite = refl
only_three heads.Absurd (formula a) (proof_term p) z cases rewrite = refl
only_three heads.Stable (proof_term p) y z cases rewrite = refl
only_three heads.Refl (term t) y z cases rewrite = refl
only_three heads.Axiom (number i) y z cases rewrite = refl
only_three heads.Induct (formula a) y z cases rewrite = refl
only_three heads.Compute (term t) y z cases rewrite = refl
only_three heads.Ring (term s) (term t) z cases rewrite = refl
only_three h x y z cases rewrite = refl

-- only these ten take two
pub only_two : (h : Head) (x y : Part)
    → (h ≡ heads.Lam → ⊥) → (h ≡ heads.Left → ⊥) → (h ≡ heads.Right → ⊥) → (h ≡ heads.Absurd → ⊥) → (h ≡ heads.App → ⊥) → (h ≡ heads.Pair → ⊥) → (h ≡ heads.Unpack → ⊥) → (h ≡ heads.Gen → ⊥) → (h ≡ heads.Inst → ⊥) → (h ≡ heads.Ring → ⊥)
    → None ≡ built h (x ∷ y ∷ [])
only_two heads.Lam x y n0 n1 n2 n3 n4 n5 n6 n7 n8 n9 = absurd (n0 refl)
only_two heads.Left x y n0 n1 n2 n3 n4 n5 n6 n7 n8 n9 = absurd (n1 refl)
only_two heads.Right x y n0 n1 n2 n3 n4 n5 n6 n7 n8 n9 = absurd (n2 refl)
only_two heads.Absurd x y n0 n1 n2 n3 n4 n5 n6 n7 n8 n9 = absurd (n3 refl)
only_two heads.App x y n0 n1 n2 n3 n4 n5 n6 n7 n8 n9 = absurd (n4 refl)
only_two heads.Pair x y n0 n1 n2 n3 n4 n5 n6 n7 n8 n9 = absurd (n5 refl)
only_two heads.Unpack x y n0 n1 n2 n3 n4 n5 n6 n7 n8 n9 = absurd (n6 refl)
only_two heads.Gen x y n0 n1 n2 n3 n4 n5 n6 n7 n8 n9 = absurd (n7 refl)
only_two heads.Inst x y n0 n1 n2 n3 n4 n5 n6 n7 n8 n9 = absurd (n8 refl)
only_two heads.Ring x y n0 n1 n2 n3 n4 n5 n6 n7 n8 n9 = absurd (n9 refl)
only_two heads.First (proof_term p) y n0 n1 n2 n3 n4 n5 n6 n7 n8 n9 = refl
only_two heads.Second (proof_term p) y n0 n1 n2 n3 n4 n5 n6 n7 n8 n9 = refl
only_two heads.Stable (proof_term p) y n0 n1 n2 n3 n4 n5 n6 n7 n8 n9 = refl
only_two heads.Refl (term t) y n0 n1 n2 n3 n4 n5 n6 n7 n8 n9 = refl
only_two heads.Compute (term t) y n0 n1 n2 n3 n4 n5 n6 n7 n8 n9 = refl
only_two heads.Axiom (number i) y n0 n1 n2 n3 n4 n5 n6 n7 n8 n9 = refl
only_two heads.Induct (formula a) y n0 n1 n2 n3 n4 n5 n6 n7 n8 n9 = refl
only_two heads.Cases (proof_term p) (proof_term q) n0 n1 n2 n3 n4 n5 n6 n7 n8 n9 = refl
only_two heads.Rewrite (formula a) (proof_term p) n0 n1 n2 n3 n4 n5 n6 n7 n8 n9 = refl
only_two heads.Pack (sort s) (formula a) n0 n1 n2 n3 n4 n5 n6 n7 n8 n9 = refl
only_two h x y n0 n1 n2 n3 n4 n5 n6 n7 n8 n9 = refl
