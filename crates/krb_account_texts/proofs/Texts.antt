-- What is written of lines is read as those lines.
use Rattle.std.proofs.Common.{◌≡◌, ℕ, ◌+◌, ◌-◌, ◌==◌, not, Bool, true, false, List, [], ◌∷◌, ◌++◌, length, slice_index_or, take, map, Ok, refl, ap, ◌∙◌, arith, length-append}
use Rattle.std.specs.List.{slice_split}
use Rattle.std.proofs.lemmas.List.{append_assoc}
use Rattle.krb_account_texts.specs.Lines.{WrittenLine, line_text, text_of}
use Rattle.krb_account_texts.specs.Reading.{lines_in, lines_of, numbered}
use Rattle.krb_account_texts.specs.Steps.{each_from}
use Rattle.krb_account_texts.specs.Writable.{AreWritable}
use Rattle.krb_account_texts.proofs.Again.{line-again, line-fed}
use Rattle.krb_account_texts.proofs.Plain.{split-part}

-- no line feed
abbrev is_feed : ℕ → Bool
is_feed octet = octet == 10

abbrev is_other : ℕ → Bool
is_other octet = not (octet == 10)

not-true : (b : Bool) → not b ≡ true → b ≡ false
not-true true is = cc is
not-true false is = refl

-- the parts of a text
split-text : (lines : List WrittenLine) → AreWritable lines → slice_split is_feed (text_of lines) ≡ map line_text lines ++ [] ∷ []
split-text [] are = refl
split-text (line ∷ lines) are =
    ap (slice_split is_feed) (append_assoc (line_text line) (10 ∷ []) (text_of lines))
    ∙ split-part is_feed is_other (λ c. not-true (c == 10)) (line_text line) 10 (text_of lines) (line-fed line are.0) refl
    ∙ ap (λ parts. line_text line ∷ parts) (split-text lines are.1)

-- the last of some parts, and those before it
last-part : (parts : List (List ℕ)) → slice_index_or (parts ++ [] ∷ []) (length parts) [] ≡ []
last-part [] = refl
last-part (part ∷ parts) = last-part parts

before-last : (parts : List (List ℕ)) → take (length parts) (parts ++ [] ∷ []) ≡ parts
before-last [] = refl
before-last (part ∷ parts) = ap (λ more. part ∷ more) (before-last parts)

one-less : (parts : List (List ℕ)) → length (parts ++ [] ∷ []) - 1 ≡ length parts
one-less parts = omega (arith, length-append parts ([] ∷ []))

each-again : (n : ℕ) (lines : List WrittenLine) → AreWritable lines → each_from numbered n (map line_text lines) ≡ Ok lines
each-again n [] are = refl
each-again n (line ∷ lines) are = rw (line-again line are.0, each-again (n + 1) lines are.1) refl

parts-again : (lines : List WrittenLine) → AreWritable lines → lines_of (map line_text lines ++ [] ∷ []) ≡ Ok lines
parts-again lines are =
    let parts : List (List ℕ) = map line_text lines in
    rw (one-less parts, last-part parts, before-last parts) (each-again 1 lines are)

pub text-read : (lines : List WrittenLine) → AreWritable lines → lines_in (text_of lines) ≡ Ok lines
unfolding lines_in
text-read lines are = ap lines_of (split-text lines are) ∙ parts-again lines are
