-- What begins a spelling. A front may need a deeper tree to be completed: only its own tags count.
use Rattle.std.specs.Prelude.{◌≡◌, ℕ, suc, ◌+◌, ◌<◌, ◌≤◌, Bool, true, nat_le, List, [], ◌∷◌, ◌++◌, length, take, replicate, Result, Ok, Err}
use Rattle.std.specs.List.{AllByRecursion, flat_map}
use Rattle.sorted_terms.specs.Tree.{TermTree, unary, binary}
use Rattle.formulas.specs.Tree.{FormulaTree, bottom, holds, joined, quantified}
use Rattle.proof_terms.specs.Tree.{ProofTree, hypothesis, lambda, application}
use Rattle.cert_codec.specs.declared.fault.DecodeFault.{DecodeFault}
use Rattle.cert_codec.specs.declared.fault.DecodeFault.TheVariants as faults
use Rattle.cert_codec.specs.Tree.{NodeTree, skip, CertificateTree}
use Rattle.cert_codec.specs.Spelling.{spell_number, spell_term, spell_proof, spell_decl, magic, spell, IsBuilt}

-- For each byte of a spelling, whether its tag stands within the bound on levels: 256 for the tags of a
-- formula and its terms, 2,048 for those of a proof. The levels of each formula begin at 1, those of a
-- node's proof too. A byte of a number stands where the tag before it stands.
abbrev pub term_within : ℕ → TermTree → List Bool
term_within level (unary sign t) = nat_le level 256 ∷ term_within (suc level) t
term_within level (binary sign s t) = nat_le level 256 ∷ (term_within (suc level) s ++ term_within (suc level) t)
term_within level t = replicate (length (spell_term t)) (nat_le level 256)

abbrev pub formula_within : ℕ → FormulaTree → List Bool
formula_within level bottom = nat_le level 256 ∷ []
formula_within level (holds t) = nat_le level 256 ∷ term_within (suc level) t
formula_within level (joined c a b) = nat_le level 256 ∷ (formula_within (suc level) a ++ formula_within (suc level) b)
formula_within level (quantified q s a) = nat_le level 256 ∷ nat_le level 256 ∷ formula_within (suc level) a

abbrev pub proof_within : ℕ → ProofTree → List Bool
proof_within level (hypothesis k) = replicate (suc (length (spell_number k))) (nat_le level 2048)
proof_within level (lambda a p) = nat_le level 2048 ∷ (formula_within 1 a ++ proof_within (suc level) p)
proof_within level (application p q) = nat_le level 2048 ∷ (proof_within (suc level) p ++ proof_within (suc level) q)
proof_within level p = replicate (length (spell_proof p)) (nat_le level 2048)

abbrev pub node_within : NodeTree → List Bool
node_within (skip p) = true ∷ proof_within 1 p

-- The bytes before the precondition stand in no tree.
abbrev pub certificate_within : CertificateTree → List Bool
certificate_within c =
    replicate (length magic + suc (length (flat_map spell_decl c.names))) true ++ (formula_within 1 c.pre ++ (formula_within 1 c.post ++ node_within c.node))

-- The bytes begin the spelling of a certificate within the bounds on numbers, and each of them stands
-- within its bound on levels.
pub record BeginsSpelling (front : List ℕ) : Type 0 where
  pub certificate : CertificateTree
  pub built : IsBuilt certificate
  pub more : List ℕ
  pub begins : spell certificate ≡ front ++ more
  pub shallow : AllByRecursion (λ is_within. is_within ≡ true) (take (length front) (certificate_within certificate))

-- Why bytes are no spelling of a certificate: some spelling begins with the bytes before the place, and
-- none with one byte more. The place is the number of bytes where more bytes would be needed.
pub record IsMalformedAt (bytes : List ℕ) (at : ℕ) : Type 0 where
  pub within : at ≤ length bytes
  pub front : BeginsSpelling (take at bytes)
  pub stops : at < length bytes → BeginsSpelling (take (at + 1) bytes) → ⊥

-- what holds of the place, where the answer is that the bytes are malformed
abbrev pub IfMalformed : {A : Type 0} → Result A DecodeFault → (ℕ → Type 0) → Type 0
IfMalformed (Ok c) P = Unit {0}
IfMalformed (Err (faults.Malformed at)) P = P at
IfMalformed (Err faults.NoMemory) P = Unit {0}
