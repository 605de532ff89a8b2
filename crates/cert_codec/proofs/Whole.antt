-- What is read of all the bytes, and where reading stops.
use Rattle.std.proofs.Common.{◌≡◌, ℕ, suc, ◌+◌, ◌≤◌, ◌<◌, Bool, true, false, cond, List, [], ◌∷◌, ◌++◌, length, take, replicate, Result, Ok, Err, refl, sym, ap, subst, ◌∙◌, append_assoc, arith, inl, inr, ◌⊎◌, ◌==◌}
use Rattle.std.proofs.lemmas.List.{length-append, append-nil, take_at, take_all}
use Rattle.std.proofs.lemmas.Bool.Decides.{eqb_tells}
use Rattle.std.specs.Prelude.{nat_le, max}
use Rattle.std.specs.List.{flat_map}
use Rattle.std.proofs.lemmas.Bool.{le-leb, leb-true, and_parts}
use Rattle.sorted_terms.specs.Tree.{boolean}
use Rattle.formulas.specs.Tree.{implies, FormulaTree, bottom, holds, joined}
use Rattle.formulas.specs.Sorts.{depth}
use Rattle.proof_terms.specs.Tree.{ProofTree, hypothesis, lambda, application}
use Rattle.proof_terms.specs.Size.{proof_depth}
use Rattle.cert_codec.specs.Tree.{NodeTree, skip, CertificateTree}
use Rattle.cert_codec.specs.Spelling.{spell_number, spell_decl, magic, spell, is_built_formula, IsBuiltProof, IsBuiltNode, IsBuilt, HasShallowFormulas, IsShallowNode, IsShallow, Spells}
use Rattle.cert_codec.specs.Front.{formula_within, proof_within, node_within, certificate_within, BeginsSpelling, IsMalformedAt}
use Rattle.cert_codec.specs.Reading.{certificate_at, whole_of}
use Rattle.cert_codec.specs.Laws.{OneSpelling, NoProperPrefix}
use Rattle.cert_codec.proofs.Readers.{Begins, Shallow, shallow_both, shallow_left, shallow_right, shallow_replicate, ok_is, err_is, apart, bind_ok, bind_err}
use Rattle.cert_codec.proofs.Trees.{certificate_laws}

-- ---- levels and depth

max_parts : (level bound m n : ℕ) → suc level + m ≤ bound → suc level + n ≤ bound → level + (1 + max m n) ≤ bound
max_parts level bound m n le le' = omega arith

formula_depth : (level : ℕ) (a : FormulaTree) → is_built_formula a ≡ true → Shallow (formula_within level a) → level + depth a ≤ 257
formula_depth level bottom e deep = let le : level ≤ 256 = leb-true level 256 deep.0 in omega (arith, le)
formula_depth level (holds (boolean false)) e deep = let le : suc level ≤ 256 = leb-true (suc level) 256 deep.1.0 in omega (arith, le)
formula_depth level (holds (boolean true)) e deep = let le : suc level ≤ 256 = leb-true (suc level) 256 deep.1.0 in omega (arith, le)
formula_depth level (joined implies a b) e deep =
    let p = and_parts _ _ e in
    let left : suc level + depth a ≤ 257 = formula_depth (suc level) a p.0 (shallow_left (formula_within (suc level) a) (formula_within (suc level) b) deep.1) in
    let right : suc level + depth b ≤ 257 = formula_depth (suc level) b p.1 (shallow_right (formula_within (suc level) a) (formula_within (suc level) b) deep.1) in
    max_parts level 257 (depth a) (depth b) left right
formula_depth level a e deep = absurd (cc)

formula_shallow : (level : ℕ) (a : FormulaTree) → is_built_formula a ≡ true → level + depth a ≤ 257 → Shallow (formula_within level a)
formula_shallow level bottom e le = (le-leb level 256 (omega (arith, le)), tt)
formula_shallow level (holds (boolean false)) e le = (le-leb level 256 (omega (arith, le)), (le-leb (suc level) 256 (omega (arith, le)), tt))
formula_shallow level (holds (boolean true)) e le = (le-leb level 256 (omega (arith, le)), (le-leb (suc level) 256 (omega (arith, le)), tt))
formula_shallow level (joined implies a b) e le =
    let p = and_parts _ _ e in
    (le-leb level 256 (omega (arith, le)), shallow_both (formula_within (suc level) a) (formula_within (suc level) b) (formula_shallow (suc level) a p.0 (omega (arith, le))) (formula_shallow (suc level) b p.1 (omega (arith, le))))
formula_shallow level a e le = absurd (cc)

abbrev IsWithin : ℕ → ProofTree → Type 0
IsWithin level p = (level + proof_depth p ≤ 2049) × HasShallowFormulas p

proof_is_within : (level : ℕ) (p : ProofTree) → IsBuiltProof p → Shallow (proof_within level p) → IsWithin level p
proof_is_within level (hypothesis k) h deep = let le : level ≤ 2048 = leb-true level 2048 deep.0 in (omega (arith, le), tt)
proof_is_within level (lambda a p) h deep =
    let formula : 1 + depth a ≤ 257 = formula_depth 1 a h.0 (shallow_left (formula_within 1 a) (proof_within (suc level) p) deep.1) in
    let below = proof_is_within (suc level) p h.1 (shallow_right (formula_within 1 a) (proof_within (suc level) p) deep.1) in
    let le : suc level + proof_depth p ≤ 2049 = below.0 in
    (omega (arith, le), (omega (arith, formula), below.1))
proof_is_within level (application p q) h deep =
    let left = proof_is_within (suc level) p h.0 (shallow_left (proof_within (suc level) p) (proof_within (suc level) q) deep.1) in
    let right = proof_is_within (suc level) q h.1 (shallow_right (proof_within (suc level) p) (proof_within (suc level) q) deep.1) in
    (max_parts level 2049 (proof_depth p) (proof_depth q) left.0 right.0, (left.1, right.1))
proof_is_within level p h deep = absurd h

proof_shallow : (level : ℕ) (p : ProofTree) → IsBuiltProof p → level + proof_depth p ≤ 2049 → HasShallowFormulas p → Shallow (proof_within level p)
proof_shallow level (hypothesis k) h le f = shallow_replicate (suc (length (spell_number k))) (nat_le level 2048) (le-leb level 2048 (omega (arith, le)))
proof_shallow level (lambda a p) h le f =
    let formula : depth a ≤ 256 = f.0 in
    (le-leb level 2048 (omega (arith, le)), shallow_both (formula_within 1 a) (proof_within (suc level) p) (formula_shallow 1 a h.0 (omega (arith, formula))) (proof_shallow (suc level) p h.1 (omega (arith, le)) f.1))
proof_shallow level (application p q) h le f =
    (le-leb level 2048 (omega (arith, le)), shallow_both (proof_within (suc level) p) (proof_within (suc level) q) (proof_shallow (suc level) p h.0 (omega (arith, le)) f.0) (proof_shallow (suc level) q h.1 (omega (arith, le)) f.1))
proof_shallow level p h le f = absurd h

node_depth : (n : NodeTree) → IsBuiltNode n → Shallow (node_within n) → IsShallowNode n
node_depth (skip p) h deep =
    let w = proof_is_within 1 p h deep.1 in
    let le : 1 + proof_depth p ≤ 2049 = w.0 in
    (omega (arith, le), w.1)

node_shallow : (n : NodeTree) → IsBuiltNode n → IsShallowNode n → Shallow (node_within n)
node_shallow (skip p) h s =
    let le : proof_depth p ≤ 2048 = s.0 in
    (refl, proof_shallow 1 p h (omega (arith, le)) s.1)

abbrev before : CertificateTree → List Bool
before c = replicate (length magic + suc (length (flat_map spell_decl c.names))) true

to_depth : (c : CertificateTree) → IsBuilt c → Shallow (certificate_within c) → IsShallow c
to_depth c h deep =
    let body = shallow_right (before c) (formula_within 1 c.pre ++ (formula_within 1 c.post ++ node_within c.node)) deep in
    let later = shallow_right (formula_within 1 c.pre) (formula_within 1 c.post ++ node_within c.node) body in
    let pre : 1 + depth c.pre ≤ 257 = formula_depth 1 c.pre h.pre (shallow_left (formula_within 1 c.pre) (formula_within 1 c.post ++ node_within c.node) body) in
    let post : 1 + depth c.post ≤ 257 = formula_depth 1 c.post h.post (shallow_left (formula_within 1 c.post) (node_within c.node) later) in
    record {
      pre = omega (arith, pre);
      post = omega (arith, post);
      node = node_depth c.node h.node (shallow_right (formula_within 1 c.post) (node_within c.node) later);
    }

to_shallow : (c : CertificateTree) → IsBuilt c → IsShallow c → Shallow (certificate_within c)
to_shallow c h s =
    let pre : depth c.pre ≤ 256 = s.pre in
    let post : depth c.post ≤ 256 = s.post in
    shallow_both (before c) (formula_within 1 c.pre ++ (formula_within 1 c.post ++ node_within c.node))
    (shallow_replicate (length magic + suc (length (flat_map spell_decl c.names))) true refl)
    (shallow_both (formula_within 1 c.pre) (formula_within 1 c.post ++ node_within c.node) (formula_shallow 1 c.pre h.pre (omega (arith, pre)))
    (shallow_both (formula_within 1 c.post) (node_within c.node) (formula_shallow 1 c.post h.post (omega (arith, post))) (node_shallow c.node h.node s.node)))

-- ---- a certificate and what follows it

pub read_again : (c : CertificateTree) → IsBuilt c → IsShallow c → (rest : List ℕ) → certificate_at (spell c ++ rest) ≡ Ok (c, rest)
read_again c h le rest = certificate_laws.again c h (to_shallow c h le) rest

-- the bytes after it decide
some_left : (x : ℕ) (rest : List ℕ) → (length (x ∷ rest) == 0) ≡ false
some_left x rest = elim (eqb_tells (suc (length rest)) 0) [
  | inl k ↦ absurd (omega (arith, k.1))
  | inr k ↦ k.0
]

abbrev at_end : CertificateTree → List ℕ → Bool → Result CertificateTree (List ℕ)
at_end c rest b = cond b (Ok c) (Err rest)

end_ok : (c d : CertificateTree) (rest : List ℕ) → at_end c rest (length rest == 0) ≡ Ok d → (rest ≡ []) × (c ≡ d)
end_ok c d [] e = (refl, ok_is c d e)
end_ok c d (x ∷ rest) e = absurd (apart d (x ∷ rest) (sym (subst (λ b. at_end c (x ∷ rest) b ≡ Ok d) (some_left x rest) e)))

end_err : (c : CertificateTree) (rest left : List ℕ) → at_end c rest (length rest == 0) ≡ Err left → rest ≡ left
end_err c [] left e = absurd (apart c left e)
end_err c (x ∷ rest) left e = err_is {A = CertificateTree} (x ∷ rest) left (subst (λ b. at_end c (x ∷ rest) b ≡ Err left) (some_left x rest) e)

pub is_spelled : (bytes : List ℕ) (c : CertificateTree) → whole_of bytes ≡ Ok c → Spells bytes c
unfolding whole_of
is_spelled bytes c e =
    let p = bind_ok (certificate_at bytes) (λ r. at_end r.0 r.1 (length r.1 == 0)) c e in
    let q = end_ok p.0.0 c p.0.1 p.2 in
    let t = certificate_laws.takes bytes p.0.0 p.0.1 p.1 in
    let whole : bytes ≡ spell p.0.0 = t.0 ∙ ap (λ w. spell p.0.0 ++ w) q.0 ∙ append-nil (spell p.0.0) in
    subst (Spells bytes) q.1 (record { spelled = sym whole; built = t.1; shallow = to_depth p.0.0 t.1 t.2 })

pub is_read : (bytes : List ℕ) (c : CertificateTree) → Spells bytes c → whole_of bytes ≡ Ok c
unfolding whole_of
is_read bytes c s =
    let e : bytes ≡ spell c ++ [] = sym s.spelled ∙ sym (append-nil (spell c)) in
    rw (e, read_again c s.built s.shallow []) refl

pub no_spelling : (bytes rest : List ℕ) → whole_of bytes ≡ Err rest → (c : CertificateTree) → Spells bytes c → ⊥
no_spelling bytes rest e c s = apart c rest (sym (is_read bytes c s) ∙ e)

-- ---- the place

-- what reading a front of a spelling gives: its end is met, or the front is a whole spelling
front_reads : (front : List ℕ) → BeginsSpelling front → (certificate_at front ≡ Err []) ⊎ ((c : CertificateTree) × (certificate_at front ≡ Ok (c, [])))
front_reads front b = by b.more b.begins
  where
    by : (more : List ℕ) → spell b.certificate ≡ front ++ more → (certificate_at front ≡ Err []) ⊎ ((c : CertificateTree) × (certificate_at front ≡ Ok (c, [])))
    by [] e =
        let whole : spell b.certificate ≡ front = e ∙ append-nil front in
        let even = certificate_laws.even b.certificate b.built in
        let all : take (length front) (certificate_within b.certificate) ≡ certificate_within b.certificate = take_all (length front) (certificate_within b.certificate) (omega (arith, even, ap length whole)) in
        inr (b.certificate, ap certificate_at (sym whole ∙ sym (append-nil (spell b.certificate))) ∙ certificate_laws.again b.certificate b.built (subst Shallow all b.shallow) [])
    by (y ∷ more) e = inl (certificate_laws.short b.certificate b.built front y more e b.shallow)

-- a list with a byte is not the empty one
no_byte : (x : ℕ) (rest : List ℕ) → x ∷ rest ≡ [] → ⊥
no_byte x rest e = absurd cc

-- no spelling begins with a front that reading does not get past, or that is more than a whole spelling
no_front : (front : List ℕ) (x : ℕ) → (certificate_at (front ++ x ∷ []) ≡ Err (x ∷ [])) ⊎ ((c : CertificateTree) × (certificate_at (front ++ x ∷ []) ≡ Ok (c, x ∷ []))) → BeginsSpelling (front ++ x ∷ []) → ⊥
no_front front x reads b = by reads (front_reads (front ++ x ∷ []) b)
  where
    by : (certificate_at (front ++ x ∷ []) ≡ Err (x ∷ [])) ⊎ ((c : CertificateTree) × (certificate_at (front ++ x ∷ []) ≡ Ok (c, x ∷ []))) → (certificate_at (front ++ x ∷ []) ≡ Err []) ⊎ ((c : CertificateTree) × (certificate_at (front ++ x ∷ []) ≡ Ok (c, []))) → ⊥
    by (inl e) (inl f) = no_byte x [] (err_is {A = CertificateTree × List ℕ} (x ∷ []) [] (sym e ∙ f))
    by (inl e) (inr f) = apart (f.0, []) (x ∷ []) (sym f.1 ∙ e)
    by (inr e) (inl f) = apart (e.0, x ∷ []) [] (sym e.1 ∙ f)
    by (inr e) (inr f) = no_byte x [] (ap (λ (p : CertificateTree × List ℕ). p.1) (ok_is (e.0, x ∷ []) (f.0, []) (sym e.1 ∙ f.1)))

-- the place, from the bytes before it and those from it on
malformed_at : (bytes front rest : List ℕ) (at : ℕ) → bytes ≡ front ++ rest → at + length rest ≡ length bytes → BeginsSpelling front → ((x : ℕ) (left : List ℕ) → rest ≡ x ∷ left → BeginsSpelling (front ++ x ∷ []) → ⊥) → IsMalformedAt bytes at
malformed_at bytes front rest at whole place b no_more =
    let long : length bytes ≡ length front + length rest = ap length whole ∙ length-append front rest in
    let is : take at bytes ≡ front = ap (take at) whole ∙ take_at front rest at (omega (arith, place, long)) in
    record { within = omega (arith, place); front = subst BeginsSpelling (sym is) b; stops = by rest whole place long no_more }
  where
    by : (rest : List ℕ) → bytes ≡ front ++ rest → at + length rest ≡ length bytes → length bytes ≡ length front + length rest → ((x : ℕ) (left : List ℕ) → rest ≡ x ∷ left → BeginsSpelling (front ++ x ∷ []) → ⊥) → at < length bytes → BeginsSpelling (take (at + 1) bytes) → ⊥
    by [] whole place long no_more lt more = absurd (omega (arith, place, lt))
    by (x ∷ left) whole place long no_more lt more =
        let size : length (front ++ x ∷ []) ≡ at + 1 = omega (arith, length-append front (x ∷ []), place, long) in
        let is : take (at + 1) bytes ≡ front ++ x ∷ [] = ap (take (at + 1)) (whole ∙ sym (append_assoc front (x ∷ []) left)) ∙ take_at (front ++ x ∷ []) left (at + 1) size in
        no_more x left refl (subst BeginsSpelling is more)

-- a front of the laws is one of the definition
begins : (front : List ℕ) → Begins IsBuilt spell certificate_within front → BeginsSpelling front
begins front b = record { certificate = b.tree; built = b.good; more = b.more; begins = b.begins; shallow = b.shallow }

pub is_malformed_at : (bytes rest : List ℕ) (at : ℕ) → whole_of bytes ≡ Err rest → at + length rest ≡ length bytes → IsMalformedAt bytes at
unfolding whole_of
is_malformed_at bytes rest at e place =
    elim (bind_err (certificate_at bytes) (λ r. at_end r.0 r.1 (length r.1 == 0)) rest e) [
      | inl k ↦
          let s = certificate_laws.fault bytes rest k in
          malformed_at bytes s.front rest at s.whole place (begins s.front s.begins) (λ x left f. no_front s.front x (inl (s.local x left [] f)))
      | inr k ↦
          let c = k.0.0 in
          let left-is : k.0.1 ≡ rest = end_err c k.0.1 rest k.2 in
          let t = certificate_laws.takes bytes c k.0.1 k.1 in
          let even = certificate_laws.even c t.1 in
          let all : take (length (spell c)) (certificate_within c) ≡ certificate_within c = take_all (length (spell c)) (certificate_within c) (omega (arith, even)) in
          malformed_at bytes (spell c) rest at (t.0 ∙ ap (λ w. spell c ++ w) left-is) place
          (record { certificate = c; built = t.1; more = []; begins = sym (append-nil (spell c)); shallow = subst Shallow (sym all) t.2 })
          (λ x left f. no_front (spell c) x (inr (c, certificate_laws.again c t.1 t.2 (x ∷ []))))
    ]

-- what is left is a part of the bytes
pub left_within : (bytes rest : List ℕ) → whole_of bytes ≡ Err rest → length rest ≤ length bytes
unfolding whole_of
left_within bytes rest e =
    elim (bind_err (certificate_at bytes) (λ r. at_end r.0 r.1 (length r.1 == 0)) rest e) [
      | inl k ↦
          let s = certificate_laws.fault bytes rest k in
          omega (arith, ap length s.whole, length-append s.front rest)
      | inr k ↦
          let t = certificate_laws.takes bytes k.0.0 k.0.1 k.1 in
          omega (arith, ap length t.0, length-append (spell k.0.0) k.0.1, ap length (end_err k.0.0 k.0.1 rest k.2))
    ]

-- ---- laws of spellings

pub one_spelling : OneSpelling
one_spelling c d built shallow built' shallow' e =
    ap (λ (p : CertificateTree × List ℕ). p.0) (ok_is (c, []) (d, []) (sym (read_again c built shallow []) ∙ ap (λ w. certificate_at (w ++ [])) e ∙ read_again d built' shallow' []))

pub no_proper_prefix : NoProperPrefix
no_proper_prefix a b c d s t =
    let whole : spell c ++ b ≡ spell d ++ [] = ap (λ w. w ++ b) s.spelled ∙ sym t.spelled ∙ sym (append-nil (spell d)) in
    ap (λ (p : CertificateTree × List ℕ). p.1) (ok_is (c, b) (d, []) (sym (read_again c s.built s.shallow b) ∙ ap certificate_at whole ∙ read_again d t.built t.shallow []))
