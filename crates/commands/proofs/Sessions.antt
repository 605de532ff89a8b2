-- What sessions keep, and what they export.
use Rattle.std.proofs.Common.{◌≡◌, ℕ, ◌+◌, ◌^◌, ◌<◌, ◌≤◌, List, [], ◌∷◌, ◌++◌, length, refl, sym, ap, subst, ◌∙◌, append_assoc, append-nil, Some, None, Option, IfSome, inl, inr, ◌⊎◌, codes, arith}
use Rattle.formulas.specs.Tree.{FormulaTree, joined, implies}
use Rattle.proof_terms.specs.Tree.{ProofTree}
use Rattle.cert_codec.specs.Tree.{CertificateTree, skip as skip_node}
use Rattle.cert_codec.specs.Spelling.{spell}
use Rattle.cert_check.specs.Valid.{IsFileOf}
use Rattle.script_reader.specs.Lines.{LineTree, spec, skip, intro, exact, export, Means}
use Rattle.script_reader.specs.declared.lines.OpenHole.{OpenHole}
use Rattle.derivation.specs.Derivation.{ProgressTree, programming, proving, finished, DerivationTree, open_hole, levels, certificate_of}
use Rattle.derivation.specs.Steps.{Exports}
use Rattle.derivation.specs.Printing.{open_text}
use Rattle.derivation.specs.Derived.{IsDerived, AnswersFor}
use Rattle.derivation.proofs.Derived.{begun_derived, skip_derived, intro_derived, exact_derived, exports_are_valid}
use Rattle.commands.specs.Session.{State, open_of, refused_line, unfinished_line, Accepts, RepliesTo, accepted, unfinished, refused, Replies, passed, meant, unread, IsExported, Leads, IsCut}
use Rattle.commands.specs.declared.session.Answer.{Answer}
use Rattle.commands.specs.declared.session.Answer.TheVariants.{Next, Exported}
use Rattle.commands.specs.Answers.{MayBe, AnswersTo, Answers}
use Rattle.commands.specs.Laws.{IsComplete, ExportIsExact, ExportIsValid, RefusalsChangeNothing}
use Rattle.commands.proofs.Lines.{may_be}

-- one line more
pub leads_on : (state : State) (lines : List (List ℕ)) (text : List ℕ) (now : State) (line reply : List ℕ) (next : State) → Leads state lines text now → Replies now line reply next → Leads state (lines ++ (line ∷ [])) (text ++ reply) next
leads_on state [] text now line reply next h r =
    (reply, next, [], subst (λ (s : State). Replies s line reply next) h.1 r, (refl, refl), rw h.0 (sym (append-nil reply)))
leads_on state (l ∷ lines) text now line reply next h r =
    (h.0, h.1, h.2 ++ reply, h.3, leads_on h.1 lines h.2 now line reply next h.4 r, rw h.5 (append_assoc h.0 h.2 reply))

-- ---- every derivation of a session is one that steps reach

abbrev IsDerivedState : State → Type 0
IsDerivedState None = Unit {0}
IsDerivedState (Some d) = IsDerived d

few_at : (g : ProgressTree) (h : OpenHole) → levels g ≤ 2048 → open_hole g ≡ Some h → h.hypotheses < 2 ^ 31
few_at programming h low e =
    let same : record { number = 1; hypotheses = 0 } ≡ h = cc in
    let none : 0 ≡ h.hypotheses = ap (λ (x : OpenHole). x.hypotheses) same in
    omega (arith, none)
few_at (proving hypotheses goal) h low e =
    let same : ◌≡◌ {A = OpenHole} (record { number = 2 + length hypotheses; hypotheses = length hypotheses }) h = cc in
    let count : length hypotheses ≡ h.hypotheses = ap (λ (x : OpenHole). x.hypotheses) same in
    omega (arith, count, low)
few_at (finished p) h low e = absurd (cc)

pub few_open : (state : State) → IsDerivedState state → (h : OpenHole) → open_of state ≡ Some h → h.hypotheses < 2 ^ 31
few_open None d h e = absurd (cc)
few_open (Some x) d h e = few_at x.progress h d.within.low e

accepts_derived : (state : State) (tree : LineTree) (next : DerivationTree) → IsDerivedState state → MayBe tree → Accepts state tree next → IsDerived next
accepts_derived None (spec pre post) next h m a = subst IsDerived (sym a) (begun_derived pre post m.0 m.1 m.2 m.3)
accepts_derived (Some d) (skip hole) next h m a = skip_derived d hole next h a
accepts_derived (Some d) (intro hole) next h m a = intro_derived d hole next h a
accepts_derived (Some d) (exact hole p) next h m a = exact_derived d hole p next h m.0 a
accepts_derived state tree next h m a = absurd a

answered_derived : (state : State) (tree : LineTree) (reply : List ℕ) (next : State) → IsDerivedState state → MayBe tree → RepliesTo state tree reply next → IsDerivedState next
answered_derived state tree reply next h m (accepted d a is text) = subst IsDerivedState (sym is) (accepts_derived state tree d h m a)
answered_derived state tree reply next h m (unfinished d hole e s o text is) = subst IsDerivedState (sym is) h
answered_derived state tree reply next h m (refused none e text is) = subst IsDerivedState (sym is) h

replies_derived : (state : State) (line reply : List ℕ) (next : State) → IsDerivedState state → Replies state line reply next → IsDerivedState next
replies_derived state line reply next h (passed blank text is) = subst IsDerivedState (sym is) h
replies_derived state line reply next h (meant tree m r) = answered_derived state tree reply next h (may_be (open_of state) line tree (few_open state h) m) r
replies_derived state line reply next h (unread full none text is) = subst IsDerivedState (sym is) h

leads_derived : (state : State) (lines : List (List ℕ)) (text : List ℕ) (now : State) → IsDerivedState state → Leads state lines text now → IsDerivedState now
leads_derived state [] text now h l = subst IsDerivedState (sym l.1) h
leads_derived state (line ∷ lines) text now h l = leads_derived l.1 lines l.2 now (replies_derived state line l.0 l.1 h l.3) l.4

-- ---- what is exported

pub export_is_valid : ExportIsValid
export_is_valid lines transcript state line c l e =
    let derived : IsDerived e.d = subst IsDerivedState e.is (leads_derived None lines transcript state tt l) in
    exports_are_valid e.d c derived e.exports

pub export_is_exact : ExportIsExact
export_is_exact lines transcript d line l means =
    let derived : IsDerived d = leads_derived None lines transcript (Some d) tt l in (
      λ x.
          let same : x.1.d ≡ d = cc (x.1.is) in
          let done : d.progress ≡ finished x.1.exports.p = ap (λ (y : DerivationTree). y.progress) (sym same) ∙ x.1.exports.done in
          let answers : AnswersFor d.pre d.post (finished x.1.exports.p) = subst (AnswersFor d.pre d.post) done derived.answers in
          (ap open_hole done, x.1.exports.p, done, answers.0),
      λ y. (certificate_of d y.1, record { means = means; d = d; is = refl; exports = record { p = y.1; done = y.2; is = refl } }),
    )

-- ---- refusals

abbrev first_byte : List ℕ → ℕ
first_byte [] = 0
first_byte (b ∷ bytes) = b

-- a reply that begins with `ok` is no refusal
accepted_apart : (reply rest : List ℕ) → reply ≡ codes "ok\n" ++ rest → (reply ≡ refused_line) ⊎ ((hole : ℕ) × (reply ≡ unfinished_line hole)) → ⊥
accepted_apart reply rest is (inl e) =
    let one : first_byte reply ≡ 111 = ap first_byte is in
    let other : first_byte reply ≡ 114 = ap first_byte e in
    omega (arith, one, other)
accepted_apart reply rest is (inr (hole, e)) =
    let one : first_byte reply ≡ 111 = ap first_byte is in
    let other : first_byte reply ≡ 114 = ap first_byte e in
    omega (arith, one, other)

refused_to : (state : State) (tree : LineTree) (reply : List ℕ) (next : State) → RepliesTo state tree reply next → (reply ≡ refused_line) ⊎ ((hole : ℕ) × (reply ≡ unfinished_line hole)) → next ≡ state
refused_to state tree reply next (accepted d a is text) r = absurd (accepted_apart reply (open_text d) text r)
refused_to state tree reply next (unfinished d hole e s o text is) r = is
refused_to state tree reply next (refused none e text is) r = is

pub refusals_change_nothing : RefusalsChangeNothing
refusals_change_nothing state line reply next (passed blank text is) r = is
refusals_change_nothing state line reply next (meant tree m a) r = refused_to state tree reply next a r
refusals_change_nothing state line reply next (unread full none text is) r = is

-- the sessions of a script's lines up to a place
pub record IsUnderway (lines later : List (List ℕ)) (transcript : List ℕ) (state : State) : Type 0 where
  pub front : List (List ℕ)
  pub split : lines ≡ front ++ later
  pub leads : Leads None front transcript state

-- the next line is played
pub goes_on : (lines later : List (List ℕ)) (transcript : List ℕ) (state : State) (line reply : List ℕ) (rest : List (List ℕ)) (transcript' : List ℕ) (next : State) → IsUnderway lines later transcript state → later ≡ line ∷ rest → transcript' ≡ transcript ++ reply → Replies state line reply next → IsUnderway lines rest transcript' next
goes_on lines later transcript state line reply rest transcript' next u first text r = record {
  front = u.front ++ (line ∷ []);
  split = u.split ∙ ap (λ (ls : List (List ℕ)). u.front ++ ls) first ∙ sym (append_assoc u.front (line ∷ []) rest);
  leads = subst (λ (t : List ℕ). Leads None (u.front ++ (line ∷ [])) t next) (sym text) (leads_on None u.front transcript state line reply next u.leads r);
}

-- the next line is an accepted `export`
pub is_cut : (lines later : List (List ℕ)) (transcript : List ℕ) (state : State) (line : List ℕ) (rest : List (List ℕ)) (transcript' : List ℕ) (c : CertificateTree) → IsUnderway lines later transcript state → later ≡ line ∷ rest → transcript' ≡ transcript → IsExported state line c → IsCut lines transcript' c
is_cut lines later transcript state line rest transcript' c u first text e = record {
  front = u.front;
  line = line;
  later = rest;
  split = u.split ∙ ap (λ (ls : List (List ℕ)). u.front ++ ls) first;
  state = state;
  leads = subst (λ (t : List ℕ). Leads None u.front t state) (sym text) u.leads;
  exported = e;
}

-- no line is left
pub is_over : (lines later : List (List ℕ)) (transcript : List ℕ) (state : State) → IsUnderway lines later transcript state → later ≡ [] → (s : State) × Leads None lines transcript s
is_over lines later transcript state u none =
    (state, subst (λ (ls : List (List ℕ)). Leads None ls transcript state) (sym (u.split ∙ ap (λ (ls : List (List ℕ)). u.front ++ ls) none ∙ append-nil u.front)) u.leads)

-- where a session begins
pub begins : (lines : List (List ℕ)) → IsUnderway lines lines [] None
begins lines = record { front = []; split = refl; leads = (refl, refl) }

-- ---- answers of the code

-- an answer to what a line means is one to the line
pub answers_meant : (state : State) (line : List ℕ) (tree : LineTree) (old new : List ℕ) (a : Answer) → Means (open_of state) line tree → AnswersTo state tree old new a → Answers state line old new a
answers_meant state line tree old new (Next session) m h = (h.0, h.1, h.2, meant tree m h.3)
answers_meant state line tree old new (Exported c) m h =
    (h.0, h.2, record { means = subst (λ (t : LineTree). Means (open_of state) line t) h.1 m; d = h.3; is = h.4; exports = h.5 })

-- what is there has what it has if it is there
pub there : {A : Type 0} (P : A → Type 0) (o : Option A) → IfSome o P → (a : A) → o ≡ Some a → P a
there P (Some b) h a e = let same : b ≡ a = cc in subst P same h
there P None h a e = absurd (cc)
