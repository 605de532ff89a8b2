-- The integers are a ring, and products keep their order.
use Rattle.std.proofs.Common.{◌≡◌, zero, suc, ℤ, pos, negsuc, ◌+ℤ◌, ◌-ℤ◌, ◌*ℤ◌, neg_ℤ, arith, sym, ap, refl, ◌∙◌}
use Rattle.std.proofs.Math.IntN.{*ℤ_comm, *ℤ-one, zero-*ℤ, suc_ℤ-*ℤ, pred_ℤ-*ℤ}
use Rattle.std.proofs.lemmas.Int.{ints}

-- One

pub times_one : (a : ℤ) → a *ℤ pos 1 ≡ a
unfolding lib.IntN.one
times_one a = *ℤ-one a

pub one_times : (a : ℤ) → pos 1 *ℤ a ≡ a
one_times a = *ℤ_comm (pos 1) a ∙ times_one a

-- Distribution, by induction on the factor

step_up : (b c p q r p' q' r' : ℤ) → p' ≡ p +ℤ (b +ℤ c) → q' ≡ q +ℤ b → r' ≡ r +ℤ c → p ≡ q +ℤ r → p' ≡ q' +ℤ r'
step_up b c p q r p' q' r' e f g h = omega (arith, ints)

step_down : (b c p q r p' q' r' : ℤ) → p' ≡ p -ℤ (b +ℤ c) → q' ≡ q -ℤ b → r' ≡ r -ℤ c → p ≡ q +ℤ r → p' ≡ q' +ℤ r'
step_down b c p q r p' q' r' e f g h = omega (arith, ints)

distribute_zero : (b c : ℤ) → pos 0 *ℤ (b +ℤ c) ≡ pos 0 *ℤ b +ℤ pos 0 *ℤ c
distribute_zero b c = rw (zero-*ℤ (b +ℤ c), zero-*ℤ b, zero-*ℤ c) refl

pub distribute : (a b c : ℤ) → a *ℤ (b +ℤ c) ≡ a *ℤ b +ℤ a *ℤ c
distribute (pos zero) b c = distribute_zero b c
distribute (pos (suc n)) b c = step_up b c _ _ _ _ _ _ (suc_ℤ-*ℤ (pos n) (b +ℤ c)) (suc_ℤ-*ℤ (pos n) b) (suc_ℤ-*ℤ (pos n) c) (distribute (pos n) b c)
distribute (negsuc zero) b c = step_down b c _ _ _ _ _ _ (pred_ℤ-*ℤ (pos zero) (b +ℤ c)) (pred_ℤ-*ℤ (pos zero) b) (pred_ℤ-*ℤ (pos zero) c) (distribute_zero b c)
distribute (negsuc (suc n)) b c = step_down b c _ _ _ _ _ _ (pred_ℤ-*ℤ (negsuc n) (b +ℤ c)) (pred_ℤ-*ℤ (negsuc n) b) (pred_ℤ-*ℤ (negsuc n) c) (distribute (negsuc n) b c)

pub distribute_left : (a b c : ℤ) → (a +ℤ b) *ℤ c ≡ a *ℤ c +ℤ b *ℤ c
distribute_left a b c = rw (*ℤ_comm (a +ℤ b) c, *ℤ_comm a c, *ℤ_comm b c) (distribute c a b)

-- A product with a negated factor

cancels : (a b c : ℤ) → a +ℤ b ≡ c → c ≡ pos 0 → a ≡ neg_ℤ b
cancels a b c e f = omega (arith, ints)

opposite : (a : ℤ) → neg_ℤ a +ℤ a ≡ pos 0
opposite a = omega (arith, ints)

pub negate_left : (a b : ℤ) → neg_ℤ a *ℤ b ≡ neg_ℤ (a *ℤ b)
negate_left a b = cancels (neg_ℤ a *ℤ b) (a *ℤ b) (pos 0 *ℤ b) (sym (distribute_left (neg_ℤ a) a b) ∙ ap (λ n. n *ℤ b) (opposite a)) (zero-*ℤ b)

pub distribute_left_minus : (a b c : ℤ) → (a -ℤ b) *ℤ c ≡ a *ℤ c -ℤ b *ℤ c
distribute_left_minus a b c =
    let split : a -ℤ b ≡ a +ℤ neg_ℤ b = omega (arith, ints) in
    let joined : a *ℤ c -ℤ b *ℤ c ≡ a *ℤ c +ℤ neg_ℤ (b *ℤ c) = omega (arith, ints) in
    ap (λ n. n *ℤ c) split ∙ distribute_left a (neg_ℤ b) c ∙ ap (λ n. a *ℤ c +ℤ n) (negate_left b c) ∙ sym joined

-- Association

pub associate : (a b c : ℤ) → (a *ℤ b) *ℤ c ≡ a *ℤ (b *ℤ c)
associate (pos zero) b c = rw (zero-*ℤ b, zero-*ℤ c, zero-*ℤ (b *ℤ c)) refl
associate (pos (suc n)) b c = ap (λ w. w *ℤ c) (suc_ℤ-*ℤ (pos n) b) ∙ distribute_left (pos n *ℤ b) b c ∙ ap (λ w. w +ℤ b *ℤ c) (associate (pos n) b c) ∙ sym (suc_ℤ-*ℤ (pos n) (b *ℤ c))
associate (negsuc zero) b c =
    ap (λ w. w *ℤ c) (pred_ℤ-*ℤ (pos zero) b) ∙ distribute_left_minus (pos 0 *ℤ b) b c ∙ ap (λ w. w -ℤ b *ℤ c) (ap (λ w. w *ℤ c) (zero-*ℤ b) ∙ zero-*ℤ c ∙ sym (zero-*ℤ (b *ℤ c))) ∙ sym (pred_ℤ-*ℤ (pos zero) (b *ℤ c))
associate (negsuc (suc n)) b c =
    ap (λ w. w *ℤ c) (pred_ℤ-*ℤ (negsuc n) b) ∙ distribute_left_minus (negsuc n *ℤ b) b c ∙ ap (λ w. w -ℤ b *ℤ c) (associate (negsuc n) b c) ∙ sym (pred_ℤ-*ℤ (negsuc n) (b *ℤ c))

-- the first and second of three factors change places
pub swap : (a b c : ℤ) → a *ℤ (b *ℤ c) ≡ b *ℤ (a *ℤ c)
swap a b c = sym (associate a b c) ∙ ap (λ n. n *ℤ c) (*ℤ_comm a b) ∙ associate b a c

-- the second and third of four factors change places
pub exchange : (a b c d : ℤ) → (a *ℤ b) *ℤ (c *ℤ d) ≡ (a *ℤ c) *ℤ (b *ℤ d)
exchange a b c d =
    associate a b (c *ℤ d) ∙ ap (λ n. a *ℤ n) (sym (associate b c d) ∙ ap (λ n. n *ℤ d) (*ℤ_comm b c) ∙ associate c b d) ∙ sym (associate a c (b *ℤ d))
