-- A script has at most one session, and that session is exact.
use Rattle.std.proofs.Common.{◌≡◌, ℕ, Bool, true, false, List, [], ◌∷◌, ◌++◌, Some, None, Option, refl, sym, ap, subst, ◌∙◌, codes, ◌==◌, ◌&&◌, if◌then◌else◌, inl, inr, ◌⊎◌}
use Rattle.std.proofs.lemmas.Bool.{and_parts, eqb-true}
use Rattle.std.specs.List.{list_all}
use Rattle.formulas.specs.Tree.{FormulaTree, joined, implies}
use Rattle.proof_terms.specs.Tree.{ProofTree}
use Rattle.cert_codec.specs.Tree.{CertificateTree}
use Rattle.script_reader.specs.declared.token.Token.{Token}
use Rattle.script_reader.specs.declared.token.Token.TheVariants as token
use Rattle.script_reader.specs.declared.lines.OpenHole.{OpenHole}
use Rattle.script_reader.specs.Tokens.{is_blank, first_token, scan}
use Rattle.script_reader.specs.Lines.{LineText, spec_text, skip_text, intro_text, exact_text, export_text, line_tokens, LineTree, spec, skip, intro, exact, export, is_slash, is_comment, is_plain, is_blank_line, Means}
use Rattle.script_reader.proofs.Readers.{one_meaning}
use Rattle.derivation.specs.Derivation.{ProgressTree, programming, proving, finished, DerivationTree, open_hole, abstracted, certificate_of}
use Rattle.derivation.specs.Steps.{Skips, Introduces, Finishes, Exports}
use Rattle.derivation.specs.Printing.{open_text}
use Rattle.commands.specs.Session.{State, open_of, refused_line, unfinished_line, Accepts, RepliesTo, accepted, unfinished, refused, Replies, passed, meant, unread, IsExported, Leads, IsCut, Plays}
use Rattle.commands.specs.Laws.{IsComplete, OneSession, IsExact, SessionsAreExact}
use Rattle.commands.proofs.Sessions.{export_is_exact}

-- ---- a blank line means nothing

-- the tokens of a blank line are none, or begin with one that stands in no line
abbrev HasNothing : List Token → Type 0
HasNothing tokens = (tokens ≡ []) ⊎ ((more : List Token) × (tokens ≡ token.Other ∷ more))

slash : (b : ℕ) (bytes : List ℕ) → b ≡ 47 → HasNothing (scan 0 (b ∷ bytes))
slash b bytes e = subst (λ (x : ℕ). HasNothing (scan 0 (x ∷ bytes))) (sym e) (inr (scan 0 bytes, refl))

comment_tokens : (bytes : List ℕ) → is_comment bytes ≡ true → HasNothing (scan 0 bytes)
comment_tokens [] e = inl refl
comment_tokens (b ∷ bytes) e = by (λ h. comment_tokens bytes h) (is_blank b) refl e where
  by : (is_comment bytes ≡ true → HasNothing (scan 0 bytes)) → (t : Bool) → is_blank b ≡ t → ◌≡◌ {A = Bool} (if t then is_comment bytes else (b == 47) && is_slash bytes) true → HasNothing (scan 0 (b ∷ bytes))
  by later true blank h = rw blank (later h)
  by later false blank h = slash b bytes (eqb-true _ _ (and_parts (b == 47) (is_slash bytes) h).0)

no_text : (t : LineText) → HasNothing (line_tokens t) → ⊥
no_text (spec_text pre post) (inl e) = absurd (cc)
no_text (skip_text hole) (inl e) = absurd (cc)
no_text (intro_text hole) (inl e) = absurd (cc)
no_text (exact_text hole p) (inl e) = absurd (cc)
no_text export_text (inl e) = absurd (cc)
no_text (spec_text pre post) (inr (more, e)) = absurd (cc)
no_text (skip_text hole) (inr (more, e)) = absurd (cc)
no_text (intro_text hole) (inr (more, e)) = absurd (cc)
no_text (exact_text hole p) (inr (more, e)) = absurd (cc)
no_text export_text (inr (more, e)) = absurd (cc)

blank_means_nothing : (opened : Option OpenHole) (line : List ℕ) (tree : LineTree) → is_blank_line line ≡ true → Means opened line tree → ⊥
blank_means_nothing opened line tree blank m =
    no_text m.text (subst HasNothing (sym m.tokens) (comment_tokens line (and_parts (is_plain line) (is_comment line) blank).1))

-- ---- a line has one reply

no_export : (state : State) (tree : LineTree) (d : DerivationTree) → tree ≡ export → Accepts state tree d → ⊥
no_export None export d e a = a
no_export (Some x) export d e a = a
no_export state (spec pre post) d e a = absurd (cc)
no_export state (skip hole) d e a = absurd (cc)
no_export state (intro hole) d e a = absurd (cc)
no_export state (exact hole p) d e a = absurd (cc)

abbrev hypotheses_of : ProgressTree → List FormulaTree
hypotheses_of (proving hypotheses goal) = hypotheses
hypotheses_of progress = []

abbrev goal_of : FormulaTree → ProgressTree → FormulaTree
goal_of other (proving hypotheses goal) = goal
goal_of other progress = other

skips_once : (d : DerivationTree) (hole : ℕ) (x y : DerivationTree) → Skips d hole x → Skips d hole y → x ≡ y
skips_once d hole x y s t = s.goes_on.is ∙ sym t.goes_on.is

introduced : (hs ks : List FormulaTree) (a b c e : FormulaTree) → proving hs (joined implies a b) ≡ proving ks (joined implies c e) → proving (a ∷ hs) b ≡ proving (c ∷ ks) e
introduced hs ks a b c e same = cc

introduces_once : (d : DerivationTree) (hole : ℕ) (x y : DerivationTree) → Introduces d hole x → Introduces d hole y → x ≡ y
introduces_once d hole x y s t =
    let parts = introduced s.hypotheses t.hypotheses s.left s.right t.left t.right (sym s.open_is ∙ t.open_is) in
    s.goes_on.is ∙ ap (λ (g : ProgressTree). record { pre = d.pre; post = d.post; progress = g }) parts ∙ sym t.goes_on.is

finishes_once : (d : DerivationTree) (hole : ℕ) (p : ProofTree) (x y : DerivationTree) → Finishes d hole p x → Finishes d hole p y → x ≡ y
finishes_once d hole p x y s t =
    let same : s.hypotheses ≡ t.hypotheses = ap hypotheses_of (sym s.open_is ∙ t.open_is) in
    s.goes_on.is ∙ ap (λ (hs : List FormulaTree). record { pre = d.pre; post = d.post; progress = finished (abstracted hs p) }) same ∙ sym t.goes_on.is

accepts_once : (state : State) (tree : LineTree) (x y : DerivationTree) → Accepts state tree x → Accepts state tree y → x ≡ y
accepts_once None (spec pre post) x y a b = a ∙ sym b
accepts_once (Some d) (skip hole) x y a b = skips_once d hole x y a b
accepts_once (Some d) (intro hole) x y a b = introduces_once d hole x y a b
accepts_once (Some d) (exact hole p) x y a b = finishes_once d hole p x y a b
accepts_once state tree x y a b = absurd a

abbrev Same : List ℕ → List ℕ → State → State → Type 0
Same reply reply' next next' = (reply ≡ reply') × (next ≡ next')

replies_to_once : (state : State) (tree : LineTree) (reply reply' : List ℕ) (next next' : State) → RepliesTo state tree reply next → RepliesTo state tree reply' next' → Same reply reply' next next'
replies_to_once state tree reply reply' next next' (accepted d a is text) (accepted d' a' is' text') =
    let same : d ≡ d' = accepts_once state tree d d' a a' in
    (text ∙ ap (λ (x : DerivationTree). codes "ok\n" ++ open_text x) same ∙ sym text', is ∙ ap (λ (x : DerivationTree). Some x) same ∙ sym is')
replies_to_once state tree reply reply' next next' (accepted d a is text) (unfinished d' hole e s o text' is') = absurd (no_export state tree d e a)
replies_to_once state tree reply reply' next next' (accepted d a is text) (refused none e text' is') = absurd (none d a)
replies_to_once state tree reply reply' next next' (unfinished d hole e s o text is) (accepted d' a is' text') = absurd (no_export state tree d' e a)
replies_to_once state tree reply reply' next next' (unfinished d hole e s o text is) (unfinished d' hole' e' s' o' text' is') =
    let same : d ≡ d' = cc in
    let holes : hole ≡ hole' = cc in
    (text ∙ ap (λ (h : OpenHole). unfinished_line h.number) holes ∙ sym text', is ∙ sym is')
replies_to_once state tree reply reply' next next' (unfinished d hole e s o text is) (refused none unless text' is') =
    let nothing : state ≡ None = unless e in absurd (cc)
replies_to_once state tree reply reply' next next' (refused none e text is) (accepted d a is' text') = absurd (none d a)
replies_to_once state tree reply reply' next next' (refused none unless text is) (unfinished d hole e s o text' is') =
    let nothing : state ≡ None = unless e in absurd (cc)
replies_to_once state tree reply reply' next next' (refused none e text is) (refused none' e' text' is') = (text ∙ sym text', is ∙ sym is')

replies_once : (state : State) (line reply reply' : List ℕ) (next next' : State) → Replies state line reply next → Replies state line reply' next' → Same reply reply' next next'
replies_once state line reply reply' next next' (passed blank text is) (passed blank' text' is') = (text ∙ sym text', is ∙ sym is')
replies_once state line reply reply' next next' (passed blank text is) (meant tree m r) = absurd (blank_means_nothing (open_of state) line tree blank m)
replies_once state line reply reply' next next' (passed blank text is) (unread full none text' is') = absurd (cc)
replies_once state line reply reply' next next' (meant tree m r) (passed blank text is) = absurd (blank_means_nothing (open_of state) line tree blank m)
replies_once state line reply reply' next next' (meant tree m r) (meant tree' m' r') =
    let same : tree' ≡ tree = one_meaning (open_of state) line tree' tree m' m in
    replies_to_once state tree reply reply' next next' r (subst (λ (t : LineTree). RepliesTo state t reply' next') same r')
replies_once state line reply reply' next next' (meant tree m r) (unread full none text is) = absurd (none tree m)
replies_once state line reply reply' next next' (unread full none text is) (passed blank text' is') = absurd (cc)
replies_once state line reply reply' next next' (unread full none text is) (meant tree m r) = absurd (none tree m)
replies_once state line reply reply' next next' (unread full none text is) (unread full' none' text' is') = (text ∙ sym text', is ∙ sym is')

-- ---- an accepted `export` has no reply, and one certificate

no_reply_to : (state : State) (tree : LineTree) (reply : List ℕ) (next : State) (line : List ℕ) (c : CertificateTree) → tree ≡ export → IsExported state line c → RepliesTo state tree reply next → ⊥
no_reply_to state tree reply next line c e x (accepted d a is text) = no_export state tree d e a
no_reply_to state tree reply next line c e x (unfinished d hole e' s o text is) =
    let same : d ≡ x.d = cc (s, x.is) in
    let done : d.progress ≡ finished x.exports.p = ap (λ (y : DerivationTree). y.progress) same ∙ x.exports.done in
    let none : open_hole d.progress ≡ None = ap open_hole done in
    absurd (cc)
no_reply_to state tree reply next line c e x (refused none unless text is) =
    let nothing : state ≡ None = unless e in
    let there : state ≡ Some x.d = x.is in
    absurd (cc)

no_reply : (state : State) (line reply : List ℕ) (next : State) (c : CertificateTree) → IsExported state line c → Replies state line reply next → ⊥
no_reply state line reply next c x (passed blank text is) = blank_means_nothing (open_of state) line export blank x.means
no_reply state line reply next c x (meant tree m r) = no_reply_to state tree reply next line c (one_meaning (open_of state) line tree export m x.means) x r
no_reply state line reply next c x (unread full none text is) = none export x.means

abbrev proof_in : ProofTree → ProgressTree → ProofTree
proof_in other (finished p) = p
proof_in other progress = other

exports_once : (state : State) (line : List ℕ) (b c : CertificateTree) → IsExported state line b → IsExported state line c → b ≡ c
exports_once state line b c x y =
    let same : x.d ≡ y.d = cc (x.is, y.is) in
    let done : finished x.exports.p ≡ finished y.exports.p = sym x.exports.done ∙ ap (λ (d : DerivationTree). d.progress) same ∙ y.exports.done in
    let proof : x.exports.p ≡ y.exports.p = ap (proof_in x.exports.p) done in
    x.exports.is ∙ ap (λ (p : ProofTree). certificate_of x.d p) proof ∙ ap (λ (d : DerivationTree). certificate_of d y.exports.p) same ∙ sym y.exports.is

-- ---- one session

-- a session from a state on: one that goes on with a line, or ends at it
record CutFrom (state : State) (lines : List (List ℕ)) (transcript : List ℕ) (c : CertificateTree) : Type 0 where
  front : List (List ℕ)
  line : List ℕ
  later : List (List ℕ)
  split : lines ≡ front ++ (line ∷ later)
  last : State
  leads : Leads state front transcript last
  exported : IsExported last line c

abbrev PlaysFrom : State → List (List ℕ) → List ℕ → Option CertificateTree → Type 0
PlaysFrom state lines transcript None = (last : State) × Leads state lines transcript last
PlaysFrom state lines transcript (Some c) = CutFrom state lines transcript c

data FirstStep (state : State) (line : List ℕ) (lines : List (List ℕ)) (transcript : List ℕ) (exported : Option CertificateTree) : Type 0 where
  goes : (reply : List ℕ) (next : State) (rest : List ℕ) → Replies state line reply next → PlaysFrom next lines rest exported → transcript ≡ reply ++ rest → FirstStep state line lines transcript exported
  stops : (c : CertificateTree) → exported ≡ Some c → transcript ≡ [] → IsExported state line c → FirstStep state line lines transcript exported

abbrev head_of : List ℕ → List (List ℕ) → List ℕ
head_of other [] = other
head_of other (line ∷ lines) = line

abbrev tail_of : List (List ℕ) → List (List ℕ)
tail_of [] = []
tail_of (line ∷ lines) = lines

cut_step : (state : State) (line : List ℕ) (lines : List (List ℕ)) (transcript : List ℕ) (c : CertificateTree) (front : List (List ℕ)) (last : List ℕ) (later : List (List ℕ)) (end : State)
    → line ∷ lines ≡ front ++ (last ∷ later) → Leads state front transcript end → IsExported end last c → FirstStep state line lines transcript (Some c)
cut_step state line lines transcript c [] last later end split leads e =
    let same : last ≡ line = ap (head_of line) (sym split) in
    let there : IsExported state last c = subst (λ (s : State). IsExported s last c) leads.1 e in
    stops c refl leads.0 (subst (λ (l : List ℕ). IsExported state l c) same there)
cut_step state line lines transcript c (f ∷ front) last later end split leads e =
    let same : f ≡ line = ap (head_of line) (sym split) in
    goes leads.0 leads.1 leads.2 (subst (λ (l : List ℕ). Replies state l leads.0 leads.1) same leads.3) (record {
      front = front;
      line = last;
      later = later;
      split = ap tail_of split;
      last = end;
      leads = leads.4;
      exported = e;
    }) leads.5

first_step : (state : State) (line : List ℕ) (lines : List (List ℕ)) (transcript : List ℕ) (exported : Option CertificateTree) → PlaysFrom state (line ∷ lines) transcript exported → FirstStep state line lines transcript exported
first_step state line lines transcript None h =
    let leads : Leads state (line ∷ lines) transcript h.0 = h.1 in
    goes leads.0 leads.1 leads.2 leads.3 (h.0, leads.4) leads.5
first_step state line lines transcript (Some c) h =
    cut_step state line lines transcript c h.front h.line h.later h.last h.split h.leads h.exported

-- no line is left to be an `export`
none_left : (front : List (List ℕ)) (line : List ℕ) (later : List (List ℕ)) → ◌≡◌ {A = List (List ℕ)} [] (front ++ (line ∷ later)) → ⊥
none_left [] line later e = absurd (cc)
none_left (f ∷ front) line later e = absurd (cc)

abbrev Equal : List ℕ → List ℕ → Option CertificateTree → Option CertificateTree → Type 0
Equal t t' x x' = (t ≡ t') × (x ≡ x')

ends_once : (state : State) (t t' : List ℕ) (x x' : Option CertificateTree) → PlaysFrom state [] t x → PlaysFrom state [] t' x' → Equal t t' x x'
ends_once state t t' None None h g = (h.1.0 ∙ sym g.1.0, refl)
ends_once state t t' (Some c) x' h g = absurd (none_left h.front h.line h.later h.split)
ends_once state t t' None (Some c) h g = absurd (none_left g.front g.line g.later g.split)

step_once : (state : State) (line : List ℕ) (lines : List (List ℕ)) (t t' : List ℕ) (x x' : Option CertificateTree)
    → ((next : State) (r r' : List ℕ) → PlaysFrom next lines r x → PlaysFrom next lines r' x' → Equal r r' x x')
    → FirstStep state line lines t x → FirstStep state line lines t' x' → Equal t t' x x'
step_once state line lines t t' x x' ih (goes reply next rest r p e) (goes reply' next' rest' r' p' e') =
    let same = replies_once state line reply reply' next next' r r' in
    let there : PlaysFrom next lines rest' x' = subst (λ (s : State). PlaysFrom s lines rest' x') (sym same.1) p' in
    let more = ih next rest rest' p there in
    (e ∙ ap (λ (y : List ℕ). y ++ rest) same.0 ∙ ap (λ (y : List ℕ). reply' ++ y) more.0 ∙ sym e', more.1)
step_once state line lines t t' x x' ih (goes reply next rest r p e) (stops c is none x1) = absurd (no_reply state line reply next c x1 r)
step_once state line lines t t' x x' ih (stops c is none x1) (goes reply next rest r p e) = absurd (no_reply state line reply next c x1 r)
step_once state line lines t t' x x' ih (stops c is none x1) (stops c' is' none' x2) =
    (none ∙ sym none', is ∙ ap (λ (y : CertificateTree). Some y) (exports_once state line c c' x1 x2) ∙ sym is')

one_from : (lines : List (List ℕ)) (state : State) (t t' : List ℕ) (x x' : Option CertificateTree) → PlaysFrom state lines t x → PlaysFrom state lines t' x' → Equal t t' x x'
one_from [] state t t' x x' h g = ends_once state t t' x x' h g
one_from (line ∷ lines) state t t' x x' h g =
    step_once state line lines t t' x x' (λ next r r' p p'. one_from lines next r r' x x' p p') (first_step state line lines t x h) (first_step state line lines t' x' g)

from_start : (lines : List (List ℕ)) (t : List ℕ) (x : Option CertificateTree) → Plays lines t x → PlaysFrom None lines t x
from_start lines t None h = h
from_start lines t (Some c) h = record { front = h.front; line = h.line; later = h.later; split = h.split; last = h.state; leads = h.leads; exported = h.exported }

pub one_session : OneSession
one_session lines t t' x x' h g = one_from lines None t t' x x' (from_start lines t x h) (from_start lines t' x' g)

-- ---- sessions are exact

pub plays_exactly : SessionsAreExact
plays_exactly lines transcript (Some c) h =
    let x : IsExported h.state h.line c = h.exported in
    let leads : Leads None h.front transcript (Some x.d) = subst (λ (s : State). Leads None h.front transcript s) x.is h.leads in
    let means : Means (open_of (Some x.d)) h.line export = subst (λ (s : State). Means (open_of s) h.line export) x.is x.means in
    (h, (export_is_exact h.front transcript x.d h.line leads means).0 (c, record { means = means; d = x.d; is = refl; exports = x.exports }))
plays_exactly lines transcript None h = λ front line later replies d split leads means complete.
    let x = (export_is_exact front replies d line leads means).1 complete in
    let cut : Plays lines replies (Some x.0) = record { front = front; line = line; later = later; split = split; state = Some d; leads = leads; exported = x.1 } in
    let same : None ≡ Some x.0 = (one_session lines transcript replies None (Some x.0) h cut).1 in
    absurd (cc)
