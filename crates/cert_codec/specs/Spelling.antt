-- The one spelling of a certificate as bytes: trees in preorder, a tag and then its fields.
use Rattle.std.specs.Prelude.{◌≡◌, ℕ, zero, suc, ◌+◌, ◌*◌, ◌/◌, ◌%◌, ◌^◌, ◌<◌, ◌≤◌, ℤ, pos, negsuc, Bool, true, false, List, [], ◌∷◌, ◌++◌, length, nat_lt, ◌&&◌, if◌then◌else◌}
use Rattle.std.specs.List.{flat_map}
use Rattle.ck_base.specs.declared.decl.Sort.{Sort}
use Rattle.ck_base.specs.declared.decl.Sort.TheVariants as sort
use Rattle.ck_base.specs.declared.decl.Kind.{Kind}
use Rattle.ck_base.specs.declared.decl.Kind.TheVariants as kind
use Rattle.ck_base.specs.declared.decl.Decl.{Decl}
use Rattle.sorted_terms.specs.Tree.{UnarySign, minus, denial, BinarySign, plus, difference, times, equal, less, at_most, both, either, TermTree, name, index, integer, boolean, unary, binary}
use Rattle.formulas.specs.Tree.{Connective, implies, and_also, or_else, Quantifier, for_all, there_is, FormulaTree, bottom, holds, joined, quantified}
use Rattle.formulas.specs.Sorts.{depth}
use Rattle.proof_terms.specs.Tree.{ProofTree, hypothesis, lambda, application, general, special, pair, first, second, left_of, right_of, by_cases, pack, unpack, from_bottom, stable, reflexive, rewriting, an_axiom, induction, computing, ring_equal, hole}
use Rattle.proof_terms.specs.Size.{proof_depth}
use Rattle.cert_codec.specs.Tree.{NodeTree, skip, CertificateTree}

-- A number in at most `suc more` bytes: seven bits a byte, the low ones first, and the high bit set in all
-- bytes but the last.
unfoldable pub number_bytes : ℕ → ℕ → List ℕ
number_bytes zero n = n ∷ []
number_bytes (suc more) n = if nat_lt n 128 then n ∷ [] else (128 + n % 128) ∷ number_bytes more (n / 128)

-- The one spelling of a number below 2^133. It has the fewest bytes.
unfoldable pub spell_number : ℕ → List ℕ
spell_number n = number_bytes 18 n

-- the number of a literal: even for 0 and above, odd below
abbrev pub literal_number : ℤ → ℕ
literal_number (pos n) = 2 * n
literal_number (negsuc n) = 2 * n + 1

abbrev pub spell_sort : Sort → ℕ
spell_sort sort.Int = 1
spell_sort sort.Bool = 2

abbrev pub spell_kind : Kind → ℕ
spell_kind kind.Variable = 1
spell_kind kind.Constant = 2

abbrev pub unary_tag : UnarySign → ℕ
unary_tag minus = 0x16
unary_tag denial = 0x1C

abbrev pub binary_tag : BinarySign → ℕ
binary_tag plus = 0x13
binary_tag difference = 0x14
binary_tag times = 0x15
binary_tag equal = 0x19
binary_tag less = 0x1A
binary_tag at_most = 0x1B
binary_tag both = 0x1D
binary_tag either = 0x1E

abbrev pub spell_term : TermTree → List ℕ
spell_term (name x) = 0x10 ∷ spell_number x
spell_term (index k) = 0x11 ∷ spell_number k
spell_term (integer n) = 0x12 ∷ spell_number (literal_number n)
spell_term (boolean false) = 0x17 ∷ []
spell_term (boolean true) = 0x18 ∷ []
spell_term (unary sign t) = unary_tag sign ∷ spell_term t
spell_term (binary sign s t) = binary_tag sign ∷ (spell_term s ++ spell_term t)

abbrev pub connective_tag : Connective → ℕ
connective_tag implies = 0x32
connective_tag and_also = 0x33
connective_tag or_else = 0x34

abbrev pub quantifier_tag : Quantifier → ℕ
quantifier_tag for_all = 0x35
quantifier_tag there_is = 0x36

abbrev pub spell_formula : FormulaTree → List ℕ
spell_formula bottom = 0x30 ∷ []
spell_formula (holds t) = 0x31 ∷ spell_term t
spell_formula (joined c a b) = connective_tag c ∷ (spell_formula a ++ spell_formula b)
spell_formula (quantified q s a) = quantifier_tag q ∷ spell_sort s ∷ spell_formula a

-- a hole has no spelling
abbrev pub spell_proof : ProofTree → List ℕ
spell_proof (hypothesis k) = 0x40 ∷ spell_number k
spell_proof (lambda a p) = 0x41 ∷ (spell_formula a ++ spell_proof p)
spell_proof (application p q) = 0x42 ∷ (spell_proof p ++ spell_proof q)
spell_proof (general s p) = 0x43 ∷ spell_sort s ∷ spell_proof p
spell_proof (special p t) = 0x44 ∷ (spell_proof p ++ spell_term t)
spell_proof (pair p q) = 0x45 ∷ (spell_proof p ++ spell_proof q)
spell_proof (first p) = 0x46 ∷ spell_proof p
spell_proof (second p) = 0x47 ∷ spell_proof p
spell_proof (left_of b p) = 0x48 ∷ (spell_formula b ++ spell_proof p)
spell_proof (right_of a p) = 0x49 ∷ (spell_formula a ++ spell_proof p)
spell_proof (by_cases p q r) = 0x4A ∷ (spell_proof p ++ (spell_proof q ++ spell_proof r))
spell_proof (pack s a t p) = 0x4B ∷ spell_sort s ∷ (spell_formula a ++ (spell_term t ++ spell_proof p))
spell_proof (unpack p q) = 0x4C ∷ (spell_proof p ++ spell_proof q)
spell_proof (from_bottom a p) = 0x4D ∷ (spell_formula a ++ spell_proof p)
spell_proof (stable p) = 0x4E ∷ spell_proof p
spell_proof (reflexive t) = 0x4F ∷ spell_term t
spell_proof (rewriting a p q) = 0x50 ∷ (spell_formula a ++ (spell_proof p ++ spell_proof q))
spell_proof (an_axiom i) = 0x51 ∷ spell_number i
spell_proof (induction a) = 0x52 ∷ spell_formula a
spell_proof (computing t) = 0x53 ∷ spell_term t
spell_proof (ring_equal s t) = 0x54 ∷ (spell_term s ++ spell_term t)
spell_proof (hole k) = []

abbrev pub spell_node : NodeTree → List ℕ
spell_node (skip p) = 0x60 ∷ spell_proof p

abbrev pub spell_decl : Decl → List ℕ
spell_decl d = spell_kind d.kind ∷ spell_sort d.sort ∷ length d.name ∷ d.name

-- the first four bytes of every certificate, "CKT1"
abbrev pub magic : List ℕ
magic = 0x43 ∷ 0x4B ∷ 0x54 ∷ 0x31 ∷ []

-- the magic bytes, the count of names, the declarations, the precondition, the postcondition and the node
abbrev pub spell : CertificateTree → List ℕ
spell c =
    magic ++ (length c.names ∷ (flat_map spell_decl c.names ++ (spell_formula c.pre ++ (spell_formula c.post ++ spell_node c.node))))

-- What is built of the form so far: the terms `true` and `false`, `bottom`, a term and an implication as
-- formulas, and hypotheses, lambdas and applications as proofs.
abbrev pub is_built_term : TermTree → Bool
is_built_term (boolean b) = true
is_built_term t = false

abbrev pub is_built_formula : FormulaTree → Bool
is_built_formula bottom = true
is_built_formula (holds t) = is_built_term t
is_built_formula (joined implies a b) = is_built_formula a && is_built_formula b
is_built_formula a = false

-- the tags are built, and every number is below 2^32
abbrev pub IsBuiltProof : ProofTree → Type 0
IsBuiltProof (hypothesis k) = k < 2 ^ 32
IsBuiltProof (lambda a p) = (is_built_formula a ≡ true) × IsBuiltProof p
IsBuiltProof (application p q) = IsBuiltProof p × IsBuiltProof q
IsBuiltProof p = ⊥

abbrev pub IsBuiltNode : NodeTree → Type 0
IsBuiltNode (skip p) = IsBuiltProof p

-- a certificate of the tags that are built, within the bounds on numbers, and with no declared name
pub record IsBuilt (c : CertificateTree) : Type 0 where
  pub names : c.names ≡ []
  pub pre : is_built_formula c.pre ≡ true
  pub post : is_built_formula c.post ≡ true
  pub node : IsBuiltNode c.node

-- no formula in a proof of the built form is deeper than 256 levels
abbrev pub HasShallowFormulas : ProofTree → Type 0
HasShallowFormulas (lambda a p) = (depth a ≤ 256) × HasShallowFormulas p
HasShallowFormulas (application p q) = HasShallowFormulas p × HasShallowFormulas q
HasShallowFormulas p = Unit {0}

-- no proof of the node is deeper than 2,048 levels, and no formula in it is deeper than 256
abbrev pub IsShallowNode : NodeTree → Type 0
IsShallowNode (skip p) = (proof_depth p ≤ 2048) × HasShallowFormulas p

-- the bounds on depth are part of the form
pub record IsShallow (c : CertificateTree) : Type 0 where
  pub pre : depth c.pre ≤ 256
  pub post : depth c.post ≤ 256
  pub node : IsShallowNode c.node

-- the bytes are the spelling of this certificate, within all bounds of the form
pub record Spells (bytes : List ℕ) (c : CertificateTree) : Type 0 where
  pub spelled : spell c ≡ bytes
  pub built : IsBuilt c
  pub shallow : IsShallow c

-- the bytes are the spelling of some certificate
abbrev pub IsSpelling : List ℕ → Type 0
IsSpelling bytes = (c : CertificateTree) × Spells bytes c
