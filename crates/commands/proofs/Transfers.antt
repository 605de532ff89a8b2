-- What whole transfers make of single reads and puts.
use Rattle.std.proofs.Common.{◌≡◌, ℕ, ◌+◌, ◌-◌, ◌^◌, ◌<◌, ◌≤◌, min, List, [], ◌∷◌, ◌++◌, Some, None, Ok, Err, refl, sym, ap, subst, ◌∙◌, arith, length, take, drop, append_assoc, append-nil, inl, inr, ⊎_elim}
use Rattle.std.specs.Prelude.{⊤}
use Rattle.std.specs.declared.option.Option.{Option}
use Rattle.std.specs.Io.KnownBytes.{Consumes, Appends, Keeps}
use Rattle.std.proofs.KnownBytes.{Appends-trans, Appends-kept}
use Rattle.std.proofs.Math.Seq.{take-add, drop-append_seam}
use Rattle.std.proofs.lemmas.List.{take-append-drop, length-append}
use Rattle.ck_base.specs.declared.outside.NamedBytes.{NamedBytes}
use Rattle.ck_base.specs.Outside.{content, Opens, Holds, Rose, Written, file, Becomes, Extends}
use Rattle.commands.specs.Commands.{Leaves, Prints, HoldsFront}

-- The bytes read so far and those left are the file of that name, where the origin tells its files.
abbrev pub IsUnderway : Option (List NamedBytes) → List ℕ → List ℕ → Option (List ℕ) → Type 0
IsUnderway None name read left = ⊤
IsUnderway (Some files) name read None = ⊥
IsUnderway (Some files) name read (Some rest) = content files name ≡ Some (read ++ rest)

pub begins : (files : Option (List NamedBytes)) (name : List ℕ) (left : Option (List ℕ)) → Opens files name left → IsUnderway files name [] left
begins None name left h = tt
begins (Some files) name None h = absurd h
begins (Some files) name (Some bytes) h = h

pub goes_on : (files : Option (List NamedBytes)) (name read piece : List ℕ) (before after : Option (List ℕ)) → IsUnderway files name read before → Consumes before after piece → IsUnderway files name (read ++ piece) after
goes_on None name read piece before after h e = tt
goes_on (Some files) name read piece None after h e = absurd h
goes_on (Some files) name read piece (Some xs) None h e = absurd e
goes_on (Some files) name read piece (Some xs) (Some ys) h e =
    h ∙ ap (λ (zs : List ℕ). Some (read ++ zs)) e ∙ ap (λ (zs : List ℕ). Some zs) (sym (append_assoc read piece ys))

-- more bytes were read than the limit
pub too_many : (files : Option (List NamedBytes)) (name read : List ℕ) (left : Option (List ℕ)) (limit : ℕ) → IsUnderway files name read left → length read ≡ limit + 1
    → (bytes : List ℕ) × Holds files name bytes × (limit < length bytes) × Leaves files left (drop (limit + 1) bytes)
too_many None name read left limit h e = (read, tt, omega arith, tt)
too_many (Some files) name read None limit h e = absurd h
too_many (Some files) name read (Some rest) limit h e =
    let long : limit < length (read ++ rest) = omega (arith, length-append read rest) in
    let after : rest ≡ drop (limit + 1) (read ++ rest) = sym (subst (λ (n : ℕ). drop n (read ++ rest) ≡ rest) e (drop-append_seam read rest)) in
    (read ++ rest, h, long, ap (λ (xs : List ℕ). Some xs) after)

-- what was put before a put failed
pub stops : (before now after : Option (List ℕ)) (faults faults' faults'' : ℕ) (text : List ℕ) (written : ℕ) → Appends before now (take written text) → Keeps now after → faults ≤ faults' → Rose faults' faults'' → Prints before after faults faults'' text
stops before now after faults faults' faults'' text written gained kept later rose = record {
  front = take written text;
  rest = drop written text;
  split = sym (take-append-drop written text);
  gained = Appends-kept before now after (take written text) gained kept;
  whole = inl (omega arith);
}

-- what was put grows by what the next put takes
pub grows : (before now after : Option (List ℕ)) (text : List ℕ) (written taken : ℕ) → Appends before now (take written text) → Appends now after (take taken (drop written text)) → Appends before after (take (written + taken) text)
grows before now after text written taken gained more =
    rw take-add (Appends-trans before now after (take written text) (take taken (drop written text)) gained more)

-- ---- files

-- what a target holds stays where a put fails
pub stays : (before now after : Option Written) (w : Written) → Becomes before now w → after ≡ now → Becomes before after w
stays None now after w h e = tt
stays (Some old) now after w h e = e ∙ h

-- the file grows by what the next put takes
pub extends : (before now after : Option Written) (name bytes : List ℕ) (written taken : ℕ) → Becomes before now (file name (take written bytes)) → Extends now after (take taken (drop written bytes)) → Becomes before after (file name (take (written + taken) bytes))
extends None now after name bytes written taken h e = tt
extends (Some old) now after name bytes written taken h e =
    let more : after ≡ Some (file name (take written bytes ++ take taken (drop written bytes))) = subst (λ (o : Option Written). Extends o after (take taken (drop written bytes))) h e in
    rw take-add more

-- what was written before a put failed
pub holds_front : (before now after : Option Written) (name bytes : List ℕ) (written : ℕ) → Becomes before now (file name (take written bytes)) → after ≡ now → HoldsFront before after name bytes
holds_front before now after name bytes written h e = record {
  front = take written bytes;
  rest = drop written bytes;
  split = sym (take-append-drop written bytes);
  written = inr (stays before now after (file name (take written bytes)) h e);
}

-- ---- one text behind another

-- a text behind one that was printed
pub prints_after : (before now after : Option (List ℕ)) (faults faults' faults'' : ℕ) (text more : List ℕ) → Appends before now text → Prints now after faults' faults'' more → faults ≤ faults' → Prints before after faults faults'' (text ++ more)
prints_after before now after faults faults' faults'' text more h p later = record {
  front = text ++ p.front;
  rest = p.rest;
  split = ap (λ (ts : List ℕ). text ++ ts) p.split ∙ sym (append_assoc text p.front p.rest);
  gained = Appends-trans before now after text p.front h p.gained;
  whole = ⊎_elim (λ (rose : Rose faults' faults''). inl (omega (arith, rose, later))) (λ (none : p.rest ≡ []). inr none) p.whole;
}

-- a front of a text is one of a longer text, where the count of faults rose
pub prints_front : (before after : Option (List ℕ)) (faults faults' : ℕ) (text more : List ℕ) → Prints before after faults faults' text → Rose faults faults' → Prints before after faults faults' (text ++ more)
prints_front before after faults faults' text more p rose = record {
  front = p.front;
  rest = p.rest ++ more;
  split = ap (λ (ts : List ℕ). ts ++ more) p.split ∙ append_assoc p.front p.rest more;
  gained = p.gained;
  whole = inl rose;
}
