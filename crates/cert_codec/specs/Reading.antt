-- The reader of certificates as functions on lists. An error has the bytes that are left, from the first
-- one with which no spelling goes on.
use Rattle.std.specs.Prelude.{◌≡◌, ℕ, zero, suc, ◌+◌, ◌-◌, ◌*◌, Bool, true, false, List, [], ◌∷◌, length, Result, Ok, Err, nat_lt, nat_le, ◌==◌, ◌&&◌, if◌then◌else◌}
use Rattle.formulas.specs.Tree.{implies, FormulaTree, bottom, holds, joined}
use Rattle.sorted_terms.specs.Tree.{TermTree, boolean}
use Rattle.proof_terms.specs.Tree.{ProofTree, hypothesis, lambda, application}
use Rattle.cert_codec.specs.declared.stop.Stop.{Stop}
use Rattle.cert_codec.specs.declared.stop.Stop.TheVariants as stops
use Rattle.cert_codec.specs.Tree.{NodeTree, skip, CertificateTree}

-- a value and the bytes after it
abbrev pub Read : Type 0 → Type 0
Read A = Result (A × List ℕ) (List ℕ)

infixl 10 ◌>>=◌
abbrev pub ◌>>=◌ : {A B : Type 0} → Result A (List ℕ) → (A → Result B (List ℕ)) → Result B (List ℕ)
(Ok x) >>= f = f x
(Err rest) >>= f = Err rest

-- What a function returned, seen by view, is what reading gives, unless memory ran out.
abbrev pub Fails : {Y : Type 0} → Stop → Result Y (List ℕ) → Type 0
Fails (stops.Malformed left) read = (rest : List ℕ) × (read ≡ Err rest) × (left ≡ length rest)
Fails stops.NoMemory read = Unit {0}

abbrev pub Gives : {X Y : Type 0} → (X → Y) → Result X Stop → Result Y (List ℕ) → Type 0
Gives view (Ok x) read = read ≡ Ok (view x)
Gives view (Err e) read = Fails e read

-- ---- ways to put readers together

-- a value that has no bytes
abbrev pub give : {A : Type 0} → A → List ℕ → Read A
give a bytes = Ok (a, bytes)

-- one byte that passes a test
abbrev pub one : (ℕ → Bool) → List ℕ → Read ℕ
one test [] = Err []
one test (x ∷ rest) = if test x then Ok (x, rest) else Err (x ∷ rest)

-- one after the other
abbrev pub both : {A B C : Type 0} → (A → B → C) → (List ℕ → Read A) → (List ℕ → Read B) → List ℕ → Read C
both f r s bytes = do
  a ← r bytes
  b ← s a.1
  Ok (f a.0 b.0, b.1)

-- a tag, and then fields
abbrev pub after : {A C : Type 0} → ℕ → (A → C) → (List ℕ → Read A) → List ℕ → Read C
after tag f = both (λ _ a. f a) (one (λ x. x == tag))

-- the first reader where the first byte passes a test
abbrev pub choose : {A : Type 0} → (ℕ → Bool) → (List ℕ → Read A) → (List ℕ → Read A) → List ℕ → Read A
choose test r s [] = s []
choose test r s (x ∷ rest) = if test x then r (x ∷ rest) else s (x ∷ rest)

-- ---- numbers

abbrev pub is_last : ℕ → Bool
is_last x = nat_lt x 128

abbrev pub goes_on : ℕ → Bool
goes_on x = nat_le 128 x && nat_lt x 256

abbrev pub between : ℕ → ℕ → ℕ → Bool
between low high x = nat_le low x && nat_lt x high

-- a byte that is not the last, and the number of those after it
abbrev pub with_low : ℕ → ℕ → ℕ
with_low x high = 128 * high + (x - 128)

-- A number above 0 and below 16 * 128 ^ more, in at most `suc more` bytes.
unfoldable pub high_at : ℕ → List ℕ → Read ℕ
high_at zero = one (between 1 16)
high_at (suc more) = choose is_last (one (between 1 128)) (both with_low (one goes_on) (high_at more))

-- a number below 2 ^ 32
unfoldable pub number_at : List ℕ → Read ℕ
number_at = choose is_last (one is_last) (both with_low (one goes_on) (high_at 3))

-- ---- trees

-- a term of at most that many levels
unfoldable pub term_at : ℕ → List ℕ → Read TermTree
term_at zero = λ bytes. Err bytes
term_at (suc levels) =
    choose (λ x. x == 0x17)
    (after 0x17 (λ _. boolean false) (give {A = Unit {0}} tt))
    (after 0x18 (λ _. boolean true) (give {A = Unit {0}} tt))

abbrev pub implication : FormulaTree → FormulaTree → FormulaTree
implication a b = joined implies a b

-- a formula of at most that many levels
unfoldable pub formula_at : ℕ → List ℕ → Read FormulaTree
formula_at zero = λ bytes. Err bytes
formula_at (suc levels) =
    choose (λ x. x == 0x30)
    (after 0x30 (λ _. bottom) (give {A = Unit {0}} tt))
    (choose (λ x. x == 0x31)
    (after 0x31 (λ t. holds t) (term_at levels))
    (after 0x32 (λ a. a) (both implication (formula_at levels) (formula_at levels))))

-- a proof of at most that many levels
unfoldable pub proof_at : ℕ → List ℕ → Read ProofTree
proof_at zero = λ bytes. Err bytes
proof_at (suc levels) =
    choose (λ x. x == 0x40)
    (after 0x40 hypothesis number_at)
    (choose (λ x. x == 0x41)
    (after 0x41 (λ p. p) (both lambda (formula_at 256) (proof_at levels)))
    (after 0x42 (λ p. p) (both application (proof_at levels) (proof_at levels))))

unfoldable pub node_at : List ℕ → Read NodeTree
node_at = after 0x60 skip (proof_at 2048)

abbrev pub with_no_names : FormulaTree → FormulaTree × NodeTree → CertificateTree
with_no_names pre parts = record { names = []; pre = pre; post = parts.0; node = parts.1 }

abbrev pub paired : {A B : Type 0} → A → B → A × B
paired a b = (a, b)

abbrev pub same : {A : Type 0} → A → A
same a = a

unfoldable pub certificate_at : List ℕ → Read CertificateTree
certificate_at =
    after 0x43 same (after 0x4B same (after 0x54 same (after 0x31 same (after 0 same (
    both with_no_names (formula_at 256) (both paired (formula_at 256) node_at))))))

-- all of the bytes
unfoldable pub whole_of : List ℕ → Result CertificateTree (List ℕ)
whole_of bytes = do
  c ← certificate_at bytes
  if length c.1 == 0 then Ok c.0 else Err c.1
