-- What holds of every certificate of the part of the form that is built.
use Rattle.std.proofs.Common.{◌≡◌, ℕ, ◌+◌, ◌^◌, ◌<◌, ◌≤◌, Bool, true, false, ◌&&◌, List, [], ◌∷◌, ◌++◌, refl, sym, ap, ◌∙◌, subst, arith, length}
use Rattle.std.proofs.lemmas.List.{length-append}
use Rattle.std.specs.List.{flat_map}
use Rattle.ck_base.specs.declared.decl.Decl.{Decl}
use Rattle.ck_base.specs.declared.decl.Sort.{Sort}
use Rattle.ck_base.specs.Names.{AreNames}
use Rattle.sorted_terms.specs.Tree.{TermTree, name, index, integer, boolean, unary, binary}
use Rattle.formulas.specs.Tree.{FormulaTree, bottom, holds, joined, quantified, implies, and_also, or_else}
use Rattle.formulas.specs.Sorts.{well_sorted, size}
use Rattle.proof_terms.specs.Tree.{ProofTree, hypothesis, lambda, application, general, special, pair, first, second, left_of, right_of, by_cases, pack, unpack, from_bottom, stable, rewriting}
use Rattle.proof_terms.specs.Size.{proof_size}
use Rattle.type_checker.specs.Place.{proof_nodes}
use Rattle.cert_codec.specs.Tree.{NodeTree, skip, CertificateTree}
use Rattle.cert_codec.specs.Spelling.{is_built_formula, spell_formula, spell_number, spell_proof, spell_node, spell_decl, spell, IsBuiltProof, IsBuiltNode, IsBuilt, Spells}
use Rattle.cert_codec.proofs.Whole.{one_spelling}
use Rattle.cert_check.specs.Proves.{Proves}
use Rattle.cert_check.specs.Valid.{IsFileOf, AreSorted, IsSmall, node_size, Valid, Complaint, malformed, limits, unproved, Complains}

and_parts : (a b : Bool) → (a && b) ≡ true → (a ≡ true) × (b ≡ true)
and_parts true b e = (refl, e)
and_parts false b e = absurd (cc)

-- a proof has no more proof nodes than nodes
pub nodes_within_size : (p : ProofTree) → proof_nodes p ≤ proof_size p
nodes_within_size (lambda a p) = omega (arith, nodes_within_size p)
nodes_within_size (application p q) = omega (arith, nodes_within_size p, nodes_within_size q)
nodes_within_size (general s p) = omega (arith, nodes_within_size p)
nodes_within_size (special p t) = omega (arith, nodes_within_size p)
nodes_within_size (pair p q) = omega (arith, nodes_within_size p, nodes_within_size q)
nodes_within_size (first p) = omega (arith, nodes_within_size p)
nodes_within_size (second p) = omega (arith, nodes_within_size p)
nodes_within_size (left_of b p) = omega (arith, nodes_within_size p)
nodes_within_size (right_of a p) = omega (arith, nodes_within_size p)
nodes_within_size (by_cases p q r) = omega (arith, nodes_within_size p, nodes_within_size q, nodes_within_size r)
nodes_within_size (pack s a t p) = omega (arith, nodes_within_size p)
nodes_within_size (unpack p q) = omega (arith, nodes_within_size p, nodes_within_size q)
nodes_within_size (from_bottom a p) = omega (arith, nodes_within_size p)
nodes_within_size (stable p) = omega (arith, nodes_within_size p)
nodes_within_size (rewriting a p q) = omega (arith, nodes_within_size p, nodes_within_size q)
nodes_within_size p = omega arith

pub sorted_formula : (names : List Decl) (variables : List Sort) (a : FormulaTree) → is_built_formula a ≡ true → well_sorted names variables a ≡ true
sorted_formula names variables bottom e = refl
sorted_formula names variables (holds (boolean b)) e = refl
sorted_formula names variables (holds t) e = absurd (cc)
sorted_formula names variables (joined implies a b) e =
    let parts = and_parts (is_built_formula a) (is_built_formula b) e in
    rw (sorted_formula names variables a parts.0, sorted_formula names variables b parts.1) refl
sorted_formula names variables (joined c a b) e = absurd (cc)
sorted_formula names variables (quantified q s a) e = absurd (cc)

-- every node has a byte of its own
pub formula_spelled : (a : FormulaTree) → is_built_formula a ≡ true → size a ≤ length (spell_formula a)
formula_spelled bottom e = omega arith
formula_spelled (holds (boolean true)) e = omega arith
formula_spelled (holds (boolean false)) e = omega arith
formula_spelled (holds t) e = absurd (cc)
formula_spelled (joined implies a b) e =
    let parts = and_parts (is_built_formula a) (is_built_formula b) e in
    omega (arith, formula_spelled a parts.0, formula_spelled b parts.1, length-append (spell_formula a) (spell_formula b))
formula_spelled (joined c a b) e = absurd (cc)
formula_spelled (quantified q s a) e = absurd (cc)

proof_spelled : (p : ProofTree) → IsBuiltProof p → proof_size p ≤ length (spell_proof p)
proof_spelled (hypothesis k) h = omega arith
proof_spelled (lambda a p) h = omega (arith, formula_spelled a h.0, proof_spelled p h.1, length-append (spell_formula a) (spell_proof p))
proof_spelled (application p q) h = omega (arith, proof_spelled p h.0, proof_spelled q h.1, length-append (spell_proof p) (spell_proof q))
proof_spelled p h = absurd h

node_spelled : (node : NodeTree) → IsBuiltNode node → node_size node ≤ length (spell_node node)
node_spelled (skip p) h = omega (arith, proof_spelled p h)

-- so a certificate has no more nodes than bytes
pub certificate_spelled : (bytes : List ℕ) (c : CertificateTree) → Spells bytes c → (size c.pre + size c.post) + node_size c.node ≤ length bytes
certificate_spelled bytes c h =
    let spelled : length (spell c) ≡ length bytes = ap length h.spelled in
    omega (
      arith,
      spelled,
      formula_spelled c.pre h.built.pre,
      formula_spelled c.post h.built.post,
      node_spelled c.node h.built.node,
      length-append (spell_formula c.post) (spell_node c.node),
      length-append (spell_formula c.pre) (spell_formula c.post ++ spell_node c.node),
      length-append (flat_map spell_decl c.names) (spell_formula c.pre ++ (spell_formula c.post ++ spell_node c.node)),
    )

names_hold : (names : List Decl) → names ≡ [] → AreNames names
names_hold names e = subst AreNames (sym e) tt

-- a built certificate that is small and whose obligation has its term is that of a valid file
pub is_file : (bytes : List ℕ) (c : CertificateTree) → length bytes ≤ 4194304 → Spells bytes c → IsSmall c → Proves c.names c.pre c.node c.post → IsFileOf c bytes
is_file bytes c short h small proved = record {
  short = short;
  spells = h;
  names = names_hold c.names h.built.names;
  sorted = record { pre = sorted_formula c.names [] c.pre h.built.pre; post = sorted_formula c.names [] c.post h.built.post };
  small = small;
  proved = proved;
}

-- the bytes spell no other certificate
only_one : (bytes : List ℕ) (c d : CertificateTree) → Spells bytes c → Spells bytes d → c ≡ d
only_one bytes c d h g = one_spelling c d h.built h.shallow g.built g.shallow (h.spelled ∙ sym g.spelled)

-- whatever certificate the bytes spell, it is too large
pub large_whichever : (bytes : List ℕ) (c : CertificateTree) → Spells bytes c → (IsSmall c → ⊥) → Complains bytes limits
large_whichever bytes c h large = ((c, h), λ d g small. large (subst IsSmall (only_one bytes d c g h) small))

-- whatever certificate the bytes spell, it is small, and its obligation has not its term
pub unproved_whichever : (bytes : List ℕ) (c : CertificateTree) → Spells bytes c → IsSmall c → (Proves c.names c.pre c.node c.post → ⊥) → Complains bytes unproved
unproved_whichever bytes c h small refuted = (
  (c, h),
  λ d g.
      let same = only_one bytes c d h g in
      (subst IsSmall same small, λ proved. refuted (subst (λ (e : CertificateTree). Proves e.names e.pre e.node e.post) (sym same) proved)),
)

-- a file of which a complaint holds is not valid
pub complaint_holds : (bytes : List ℕ) (complaint : Complaint) → Complains bytes complaint → Valid bytes → ⊥
complaint_holds bytes malformed h (c, file) = h (c, file.spells)
complaint_holds bytes limits h (c, file) = h.1 c file.spells file.small
complaint_holds bytes unproved h (c, file) = (h.1 c file.spells).1 file.proved
