-- Valid files: what `check` accepts, from the bytes alone.
use Rattle.std.specs.Prelude.{◌≡◌, ℕ, ◌+◌, ◌≤◌, true, List, [], length, Result, Ok, Err}
use Rattle.ck_base.specs.Names.{AreNames}
use Rattle.formulas.specs.Sorts.{well_sorted, size}
use Rattle.proof_terms.specs.Size.{proof_size}
use Rattle.cert_codec.specs.Tree.{NodeTree, skip, CertificateTree}
use Rattle.cert_codec.specs.Spelling.{Spells, IsSpelling}
use Rattle.cert_check.specs.declared.checking.CheckFault.{CheckFault}
use Rattle.cert_check.specs.declared.checking.CheckFault.TheVariants as faults
use Rattle.cert_check.specs.Proves.{Proves, program_of}
use Rattle.cert_check.specs.Runs.{Meets}

-- The parts of a certificate, its pre- and postcondition so far, are well-sorted.
pub record AreSorted (c : CertificateTree) : Type 0 where
  pub pre : well_sorted c.names [] c.pre ≡ true
  pub post : well_sorted c.names [] c.post ≡ true

-- the number of program, proof, formula and term nodes
abbrev pub node_size : NodeTree → ℕ
node_size (skip p) = 1 + proof_size p

-- no part has more than 16,384 nodes, and the whole has at most 200,000
pub record IsSmall (c : CertificateTree) : Type 0 where
  pub pre : size c.pre ≤ 16384
  pub post : size c.post ≤ 16384
  pub whole : size c.pre + size c.post + node_size c.node ≤ 200000

-- the bytes are a valid file of this certificate
pub record IsFileOf (c : CertificateTree) (bytes : List ℕ) : Type 0 where
  pub short : length bytes ≤ 4194304
  pub spells : Spells bytes c
  pub names : AreNames c.names
  pub sorted : AreSorted c
  pub small : IsSmall c
  pub proved : Proves c.names c.pre c.node c.post

-- the bytes are a valid file of some certificate
abbrev pub Valid : List ℕ → Type 0
Valid bytes = (c : CertificateTree) × IsFileOf c bytes

-- The certificate's program keeps its promise: no run from a state that meets the precondition is stuck,
-- and one that has ended meets the postcondition.
abbrev pub KeepsPromise : CertificateTree → Type 0
KeepsPromise c = Meets c.names c.pre (program_of c.node) c.post

-- whatever certificate the file is of keeps its promise
abbrev pub HasPromise : List ℕ → Type 0
HasPromise bytes = (c : CertificateTree) → IsFileOf c bytes → KeepsPromise c

-- why a file is not valid: the first condition that fails
pub data Complaint : Type 0 where
  malformed : Complaint
  limits : Complaint
  unproved : Complaint

-- The bytes are no spelling; or they are one, and a part or the whole is too large; or they are small, and
-- an obligation has not its term.
abbrev pub Complains : List ℕ → Complaint → Type 0
Complains bytes malformed = IsSpelling bytes → ⊥
Complains bytes limits = IsSpelling bytes × ((c : CertificateTree) → Spells bytes c → IsSmall c → ⊥)
Complains bytes unproved =
    IsSpelling bytes × ((c : CertificateTree) → Spells bytes c → IsSmall c × (Proves c.names c.pre c.node c.post → ⊥))

-- what holds of the place, where the answer is that the bytes are malformed
abbrev pub IfMalformed : {A : Type 0} → Result A CheckFault → (ℕ → Type 0) → Type 0
IfMalformed (Ok c) P = Unit {0}
IfMalformed (Err (faults.Malformed at)) P = P at
IfMalformed (Err fault) P = Unit {0}
