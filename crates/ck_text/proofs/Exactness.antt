-- The reader is exact: what it reads, and where it stops.
use Rattle.std.proofs.Common.{◌≡◌, ℕ, Bool, List, [], ◌∷◌, ◌++◌, refl, sym, ap, subst, ◌∙◌, append_assoc, append-nil, Option, Some, None, Ok, Err}
use Rattle.std.specs.declared.result.Result.{Result}
use Rattle.ck_text.specs.Tokens.{Token}
use Rattle.ck_text.specs.Texts.{Text, tokens, IsText}
use Rattle.ck_text.specs.Machine.{State, wanting, step, finished, or_fault, after, run, read}
use Rattle.ck_text.specs.Laws.{Begins, StopsAt, ReadsExactly, OneText}
use Rattle.ck_text.proofs.Stacks.{Lasts, before}
use Rattle.ck_text.proofs.Keeping.{step_keeps, run_is}
use Rattle.ck_text.proofs.Completing.{completed}
use Rattle.ck_text.proofs.Rereading.{whole_read}

apart : (a : Text) (rest : List Token) → ◌≡◌ {A = Result Text (List Token)} (Ok a) (Err rest) → ⊥
apart a rest e = cc

-- the state does not go on with these tokens
abbrev Refuses : ℕ → Bool → State → List Token → Type 0
Refuses limit asked st [] = finished st ≡ None
Refuses limit asked st (t ∷ rest) = step limit asked st t ≡ None

-- a run that stops took tokens to a state that refuses those that are left
record Stopped (limit : ℕ) (asked : Bool) (st : State) (ts rest : List Token) : Type 0 where
  taken : List Token
  last : State
  whole : ts ≡ taken ++ rest
  lasts : Lasts limit asked last
  next : (more : List Token) → before st (taken ++ more) ≡ before last more
  goes : (more : List Token) → run limit asked (taken ++ more) st ≡ run limit asked more last
  refuses : Refuses limit asked last rest

module _ (limit : ℕ) (asked : Bool) where
  stops_here : (st : State) (ts rest : List Token) → Lasts limit asked st → ts ≡ rest → Refuses limit asked st rest → Stopped limit asked st ts rest
  stops_here st ts rest h e r = record { taken = []; last = st; whole = e; lasts = h; next = (λ more. refl); goes = (λ more. refl); refuses = r }

  stopped : (ts : List Token) (st : State) (rest : List Token) → Lasts limit asked st → run limit asked ts st ≡ Err rest → Stopped limit asked st ts rest
  stopped [] st rest h e = by (finished st) refl e where
    by : (o : Option Text) → finished st ≡ o → or_fault o ≡ Err rest → Stopped limit asked st [] rest
    by (Some a) f e = absurd (apart a rest e)
    by None f e = let none : [] ≡ rest = cc in subst (λ x. Stopped limit asked st [] x) none (stops_here st [] [] h refl f)
  stopped (t ∷ ts) st rest h e = by (λ next. stopped ts next rest) (step limit asked st t) refl e where
    by : ((next : State) → Lasts limit asked next → run limit asked ts next ≡ Err rest → Stopped limit asked next ts rest)
        → (o : Option State) → step limit asked st t ≡ o → after o (t ∷ ts) (λ next. run limit asked ts next) ≡ Err rest → Stopped limit asked st (t ∷ ts) rest
    by ih (Some next) taken e =
        let k = step_keeps limit asked st t next h taken in
        let s = ih next k.0 e in
        record {
          taken = t ∷ s.taken;
          last = s.last;
          whole = ap (λ x. t ∷ x) s.whole;
          lasts = s.lasts;
          next = (λ more. k.1 (s.taken ++ more) ∙ s.next more);
          goes = (λ more. ap (λ o. after o (t ∷ (s.taken ++ more)) (λ next. run limit asked (s.taken ++ more) next)) taken ∙ s.goes more);
          refuses = s.refuses;
        }
    by ih None taken e =
        let left : t ∷ ts ≡ rest = cc in
        subst (λ x. Stopped limit asked st (t ∷ ts) x) left (stops_here st (t ∷ ts) (t ∷ ts) h refl taken)

  begins : (st : State) (front : List Token) → Lasts limit asked st → ((more : List Token) → front ++ more ≡ before st more) → Begins limit asked front
  begins st front h e = let c = completed limit asked st h in (c.0, c.1, c.2, (sym c.3 ∙ sym (e c.1)), c.4)

  -- a text whose tokens lead to a state that refuses the next of them is none
  no_text : (a : Text) (st : State) (front rest : List Token) → IsText limit asked a → ((more : List Token) → run limit asked (front ++ more) (wanting []) ≡ run limit asked more st)
      → tokens a ≡ front ++ rest → run limit asked rest st ≡ Err rest → ⊥
  no_text a st front rest h goes e r = apart a rest (sym (whole_read limit asked a h) ∙ ap (read limit asked) e ∙ goes rest ∙ r)

  refused : (st : State) (rest : List Token) → Refuses limit asked st rest → run limit asked rest st ≡ Err rest
  refused st [] r = ap or_fault r
  refused st (t ∷ rest) r = ap (λ o. after o (t ∷ rest) (λ next. run limit asked rest next)) r

  stops_at : (st : State) (front rest : List Token) → Begins limit asked front → ((more : List Token) → run limit asked (front ++ more) (wanting []) ≡ run limit asked more st)
      → Refuses limit asked st rest → StopsAt limit asked front rest
  stops_at st front [] b goes r = (b, (λ a h e. no_text a st front [] h goes (e ∙ sym (append-nil front)) (refused st [] r)))
  stops_at st front (t ∷ rest) b goes r =
      (b, (λ a more h e. no_text a st front (t ∷ more) h goes (e ∙ append_assoc front (t ∷ []) more) (refused st (t ∷ more) r)))

pub exactly : ReadsExactly
exactly limit asked = (
  (λ ts a e. let r = run_is limit asked ts (wanting []) a tt e in (r.0, sym r.1)),
  (λ a h. whole_read limit asked a h),
  (λ ts rest e. let s = stopped limit asked ts (wanting []) rest tt e in (s.taken, s.whole, stops_at limit asked s.last s.taken rest (begins limit asked s.last s.taken s.lasts s.next) s.goes s.refuses)),
)

pub one : OneText
one limit asked a b h k e =
    let same : ◌≡◌ {A = Result Text (List Token)} (Ok a) (Ok b) = sym (whole_read limit asked a h) ∙ ap (read limit asked) e ∙ whole_read limit asked b k in
    cc
