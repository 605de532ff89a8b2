-- The printed bytes of a written proof have just its tokens.
use Rattle.std.proofs.Common.{◌≡◌, ℕ, List, [], ◌∷◌, ◌++◌, codes, decimal, refl, sym, ap, ◌∙◌, append_assoc, append-nil}
use Rattle.ck_base.specs.declared.decl.Sort.{Sort}
use Rattle.ck_base.specs.declared.decl.Sort.TheVariants as sorts
use Rattle.ck_text.specs.declared.token.Mark.TheVariants as marks
use Rattle.ck_text.specs.Tokens.{Token, AreTokens, scan, bare}
use Rattle.ck_text.specs.Tokens as token
use Rattle.ck_text.specs.ProofTexts.{head_word, ProofText, numbered, open_hole, headed, Arguments, last, more, Argument, of_sort, of_number, of_expression, of_proof, proof_tokens, arguments_tokens, argument_tokens}
use Rattle.ck_text.specs.ProofPrinting.{sort_word, proof_printed, arguments_printed, argument_printed}
use Rattle.ck_text.specs.ProofPrintingLaws.{ProofPrintedScans}
use Rattle.ck_text.proofs.Rescanning.{Ends, word_scans, name_scans, number_scans, open_scans, close_scans, are_parts, text_scans}
use Rattle.ck_text.proofs.ProofTables.{head_is_word}

-- # Signs and sorts

hash_scans : (rest : List ℕ) → bare (scan 0 (codes "#" ++ rest)) ≡ token.mark marks.Hash ∷ bare (scan 0 rest)
hash_scans [] = refl
hash_scans (b ∷ rest) = refl

question_scans : (rest : List ℕ) → bare (scan 0 (codes "?" ++ rest)) ≡ token.mark marks.Question ∷ bare (scan 0 rest)
question_scans [] = refl
question_scans (b ∷ rest) = refl

comma_scans : (rest : List ℕ) → bare (scan 0 (codes ", " ++ rest)) ≡ token.mark marks.Comma ∷ bare (scan 0 rest)
comma_scans rest = refl

sort_scans : (s : Sort) (rest : List ℕ) → Ends rest → bare (scan 0 (sort_word s ++ rest)) ≡ token.sort s ∷ bare (scan 0 rest)
sort_scans sorts.Int rest e = word_scans 105 (codes "nt") rest refl refl e
sort_scans sorts.Bool rest e = word_scans 98 (codes "ool") rest refl refl e

-- # Proofs

mutual
  proof_scans : (p : ProofText) (rest : List ℕ) → AreTokens (proof_tokens p) → Ends rest → bare (scan 0 (proof_printed p ++ rest)) ≡ proof_tokens p ++ bare (scan 0 rest)
  proof_scans (numbered k) rest h e = hash_scans (decimal k ++ rest) ∙ ap (λ ts. token.mark marks.Hash ∷ ts) (number_scans k rest h.1.0 e)
  proof_scans (open_hole k) rest h e = question_scans (decimal k ++ rest) ∙ ap (λ ts. token.mark marks.Question ∷ ts) (number_scans k rest h.1.0 e)
  proof_scans (headed g arguments) rest h e =
      ap (λ l. bare (scan 0 l)) (
      append_assoc (head_word g) (codes "(" ++ (arguments_printed arguments ++ codes ")")) rest
      ∙ ap (λ l. head_word g ++ (codes "(" ++ l)) (append_assoc (arguments_printed arguments) (codes ")") rest)
      )
      ∙ name_scans (head_word g) (codes "(" ++ (arguments_printed arguments ++ (codes ")" ++ rest))) (head_is_word g) refl
      ∙ ap (λ ts. token.word (head_word g) ∷ ts) (
      open_scans (arguments_printed arguments ++ (codes ")" ++ rest))
      ∙ ap (λ ts. token.mark marks.Open ∷ ts) (
      arguments_scan arguments (codes ")" ++ rest) (are_parts (arguments_tokens arguments) (token.mark marks.Close ∷ []) h.1.1).0 refl
      ∙ ap (λ ts. arguments_tokens arguments ++ ts) (close_scans rest)
      ∙ sym (append_assoc (arguments_tokens arguments) (token.mark marks.Close ∷ []) (bare (scan 0 rest)))
      )
      )

  arguments_scan : (others : Arguments) (rest : List ℕ) → AreTokens (arguments_tokens others) → Ends rest → bare (scan 0 (arguments_printed others ++ rest)) ≡ arguments_tokens others ++ bare (scan 0 rest)
  arguments_scan (last a) rest h e = argument_scans a rest h e
  arguments_scan (more a others) rest h e =
      let p = are_parts (argument_tokens a) (token.mark marks.Comma ∷ arguments_tokens others) h in
      ap (λ l. bare (scan 0 l)) (append_assoc (argument_printed a) (codes ", " ++ arguments_printed others) rest)
      ∙ argument_scans a (codes ", " ++ (arguments_printed others ++ rest)) p.0 refl
      ∙ ap (λ ts. argument_tokens a ++ ts) (comma_scans (arguments_printed others ++ rest) ∙ ap (λ ts. token.mark marks.Comma ∷ ts) (arguments_scan others rest p.1.1 e))
      ∙ sym (append_assoc (argument_tokens a) (token.mark marks.Comma ∷ arguments_tokens others) (bare (scan 0 rest)))

  argument_scans : (a : Argument) (rest : List ℕ) → AreTokens (argument_tokens a) → Ends rest → bare (scan 0 (argument_printed a ++ rest)) ≡ argument_tokens a ++ bare (scan 0 rest)
  argument_scans (of_sort s) rest h e = sort_scans s rest e
  argument_scans (of_number n) rest h e = number_scans n rest h.0 e
  argument_scans (of_expression a) rest h e = text_scans a rest h e
  argument_scans (of_proof p) rest h e = proof_scans p rest h e

pub proof_printed_scans : ProofPrintedScans
proof_printed_scans p h = ap (λ l. bare (scan 0 l)) (sym (append-nil (proof_printed p))) ∙ proof_scans p [] h tt ∙ append-nil (proof_tokens p)
