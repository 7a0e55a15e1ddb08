-- What is written of words is read as those words.
use Rattle.std.proofs.Common.{◌≡◌, ℕ, ◌+◌, ◌%◌, ◌<◌, ◌≤◌, ◌^◌, ◌==◌, nat_le, nat_lt, Bool, true, false, cond, if◌then◌else◌, List, [], ◌∷◌, ◌++◌, length, codes, Result, Ok, refl, ap, sym, subst, ◌∙◌, arith}
use Rattle.std.specs.List.{list_all, slice_split}
use Rattle.std.specs.Fmt.{decimal}
use Rattle.std.proofs.lemmas.Bool.{le-leb, ltb-true}
use Rattle.std.proofs.lemmas.Bool.Decides.{nat_tests}
use Rattle.std.proofs.lemmas.Fmt.{decimal_by_steps}
use Rattle.krb_realm_accounts.specs.declared.policy.Policy.{Policy}
use Rattle.krb_account_texts.specs.Lines.{before, further_by, renewable_word, words_text}
use Rattle.krb_account_texts.specs.Reading.{next_words, no_words, words_behind, words_in}
use Rattle.krb_account_texts.specs.declared.fault.LineFault.{LineFault}
use Rattle.krb_account_texts.specs.declared.words.Words.{Words}
use Rattle.krb_account_texts.proofs.Numbers.{decimal-read}
use Rattle.krb_account_texts.proofs.Plain.{all-both, all-cons, is_all_plain, is_plain, plain-decimal, split-last, split-part}

-- what there is behind words
filled : (c : ℕ) (text : List ℕ) → (length (c ∷ text) == 0) ≡ false
filled c text = grind (arith, nat_tests)

before-more : (word : List ℕ) (c : ℕ) (text : List ℕ) → before true word (c ∷ text) ≡ word ++ 44 ∷ c ∷ text
before-more word c text = ap (λ (b : Bool). cond b word (word ++ 44 ∷ c ∷ text)) (filled c text)

pub further-more : (c : ℕ) (words octets : List ℕ) → further_by (c ∷ words) octets ≡ 9 ∷ ((c ∷ words) ++ 9 ∷ octets)
further-more c words octets = ap (λ (b : Bool). cond b [] (9 ∷ ((c ∷ words) ++ 9 ∷ octets))) (filled c words)

-- a text of words has neither a tab nor a line feed
plain-before : (is : Bool) (word text : List ℕ) → is_all_plain word ≡ true → is_all_plain text ≡ true → is_all_plain (before is word text) ≡ true
plain-before false word text first second = second
plain-before true word [] first second = first
plain-before true word (c ∷ text) first second = ap is_all_plain (before-more word c text) ∙ all-both is_plain word (44 ∷ c ∷ text) first second

pub plain-words : (policy : Policy) (guards is : Bool) → policy.renewable_life ≤ 31536000 → is_all_plain (words_text policy guards is) ≡ true
unfolding words_text
plain-words policy guards is few =
    let life : ℕ = policy.renewable_life in
    let last : List ℕ = before is (codes "pkinit") [] in
    let sha1 : List ℕ = before policy.pkinit_sha1 (codes "pkinit-sha1") last in
    let agility : List ℕ = before policy.pkinit_agility (codes "pkinit-agility") sha1 in
    let guarding : List ℕ = before guards (codes "guards-passwords") agility in
    let renewable : List ℕ = before (nat_lt 0 life) (renewable_word life) guarding in
    let proxiable : List ℕ = before policy.proxiable (codes "proxiable") renewable in
    let forwardable : List ℕ = before policy.forwardable (codes "forwardable") proxiable in
    let seconds : is_all_plain (renewable_word life) ≡ true = all-both is_plain (codes "renewable=") (decimal life) refl (plain-decimal life (omega arith)) in
    plain-before policy.limits_des3 (codes "limits-des3") forwardable refl
    (plain-before policy.forwardable (codes "forwardable") proxiable refl
    (plain-before policy.proxiable (codes "proxiable") renewable refl
    (plain-before (nat_lt 0 life) (renewable_word life) guarding seconds
    (plain-before guards (codes "guards-passwords") agility refl
    (plain-before policy.pkinit_agility (codes "pkinit-agility") sha1 refl
    (plain-before policy.pkinit_sha1 (codes "pkinit-sha1") last refl (plain-before is (codes "pkinit") [] refl refl)))))))

-- each octet of a word is above a comma
abbrev is_comma : ℕ → Bool
is_comma octet = octet == 44

abbrev is_worded : ℕ → Bool
is_worded c = nat_lt 44 c

above : (c : ℕ) → 44 < c → is_worded c ≡ true
above c over = grind (arith, nat_tests)

uncut : (c : ℕ) → is_worded c ≡ true → (c == 44) ≡ false
uncut c worded = grind (arith, nat_tests)

worded-decimal : (n : ℕ) → n < 2 ^ 64 → list_all is_worded (decimal n) ≡ true
worded-decimal n below =
    decimal_by_steps (λ n ds. list_all is_worded ds ≡ true)
    (λ n small. all-cons is_worded (48 + n) [] (above (48 + n) (omega arith)) refl)
    (λ n ds big so_far. all-both is_worded ds ((48 + n % 10) ∷ []) so_far (all-cons is_worded (48 + n % 10) [] (above (48 + n % 10) (omega arith)) refl))
    n below

-- the text has these words, or there is no word
abbrev AreIn : List ℕ → List (List ℕ) → Type 0
AreIn [] words = words ≡ []
AreIn (c ∷ text) words = slice_split is_comma (c ∷ text) ≡ words

abbrev word_if : Bool → List ℕ → List (List ℕ)
word_if is word = if is then word ∷ [] else []

abbrev IsFilled : List ℕ → Type 0
IsFilled [] = ⊥
IsFilled (c ∷ word) = Unit {0}

in-before : (is : Bool) (word text : List ℕ) (words : List (List ℕ)) → IsFilled word → list_all is_worded word ≡ true → AreIn text words
    → AreIn (before is word text) (word_if is word ++ words)
in-before false word text words some worded are = are
in-before true [] text words some worded are = absurd some
in-before true (c ∷ word) [] words some worded are =
    split-last is_comma is_worded uncut (c ∷ word) worded ∙ ap (λ (more : List (List ℕ)). (c ∷ word) ∷ more) (sym are)
in-before true (c ∷ word) (d ∷ text) words some worded are =
    subst (λ (it : List ℕ). AreIn it ((c ∷ word) ∷ words)) (sym (before-more (c ∷ word) d text))
    (split-part is_comma is_worded uncut (c ∷ word) 44 (d ∷ text) worded refl ∙ ap (λ (more : List (List ℕ)). (c ∷ word) ∷ more) are)

-- the words of a text, and those from each one on
abbrev from_pkinit : Bool → List (List ℕ)
from_pkinit is = word_if is (codes "pkinit") ++ []

abbrev from_sha1 : Policy → Bool → List (List ℕ)
from_sha1 policy is = word_if policy.pkinit_sha1 (codes "pkinit-sha1") ++ from_pkinit is

abbrev from_agility : Policy → Bool → List (List ℕ)
from_agility policy is = word_if policy.pkinit_agility (codes "pkinit-agility") ++ from_sha1 policy is

abbrev from_guarding : Policy → Bool → Bool → List (List ℕ)
from_guarding policy guards is = word_if guards (codes "guards-passwords") ++ from_agility policy is

abbrev from_renewable : Policy → Bool → Bool → List (List ℕ)
from_renewable policy guards is = word_if (nat_lt 0 policy.renewable_life) (renewable_word policy.renewable_life) ++ from_guarding policy guards is

abbrev from_proxiable : Policy → Bool → Bool → List (List ℕ)
from_proxiable policy guards is = word_if policy.proxiable (codes "proxiable") ++ from_renewable policy guards is

abbrev from_forwardable : Policy → Bool → Bool → List (List ℕ)
from_forwardable policy guards is = word_if policy.forwardable (codes "forwardable") ++ from_proxiable policy guards is

abbrev words_of : Policy → Bool → Bool → List (List ℕ)
words_of policy guards is = word_if policy.limits_des3 (codes "limits-des3") ++ from_forwardable policy guards is

words-in : (policy : Policy) (guards is : Bool) → policy.renewable_life ≤ 31536000 → AreIn (words_text policy guards is) (words_of policy guards is)
unfolding words_text
words-in policy guards is few =
    let life : ℕ = policy.renewable_life in
    let last : List ℕ = before is (codes "pkinit") [] in
    let sha1 : List ℕ = before policy.pkinit_sha1 (codes "pkinit-sha1") last in
    let agility : List ℕ = before policy.pkinit_agility (codes "pkinit-agility") sha1 in
    let guarding : List ℕ = before guards (codes "guards-passwords") agility in
    let renewable : List ℕ = before (nat_lt 0 life) (renewable_word life) guarding in
    let proxiable : List ℕ = before policy.proxiable (codes "proxiable") renewable in
    let forwardable : List ℕ = before policy.forwardable (codes "forwardable") proxiable in
    let seconds : list_all is_worded (renewable_word life) ≡ true = all-both is_worded (codes "renewable=") (decimal life) refl (worded-decimal life (omega arith)) in
    in-before policy.limits_des3 (codes "limits-des3") forwardable (from_forwardable policy guards is) tt refl
    (in-before policy.forwardable (codes "forwardable") proxiable (from_proxiable policy guards is) tt refl
    (in-before policy.proxiable (codes "proxiable") renewable (from_renewable policy guards is) tt refl
    (in-before (nat_lt 0 life) (renewable_word life) guarding (from_guarding policy guards is) tt seconds
    (in-before guards (codes "guards-passwords") agility (from_agility policy is) tt refl
    (in-before policy.pkinit_agility (codes "pkinit-agility") sha1 (from_sha1 policy is) tt refl
    (in-before policy.pkinit_sha1 (codes "pkinit-sha1") last (from_pkinit is) tt refl (in-before is (codes "pkinit") [] [] tt refl refl)))))))

-- each word is read behind those before it
abbrev agreed : Bool → Bool → Bool → ℕ → Bool → Bool → Bool → Words
agreed limits forwardable proxiable life guards agile sha1 = record {
  policy = record {
    limits_des3 = limits;
    forwardable = forwardable;
    proxiable = proxiable;
    renewable_life = life;
    pkinit_agility = agile;
    pkinit_sha1 = sha1;
  };
  guards_passwords = guards;
  is_certified = false;
}

abbrev said : Bool → Bool → Bool → ℕ → Words
said limits forwardable proxiable life = agreed limits forwardable proxiable life false false false

limits-step : (is : Bool) (more : List (List ℕ)) → words_behind no_words (word_if is (codes "limits-des3") ++ more) ≡ words_behind (said is false false 0) more
unfolding next_words
limits-step true more = refl
limits-step false more = refl

forward-step : (limits is : Bool) (more : List (List ℕ)) → words_behind (said limits false false 0) (word_if is (codes "forwardable") ++ more) ≡ words_behind (said limits is false 0) more
unfolding next_words
forward-step limits true more = refl
forward-step limits false more = refl

proxy-step : (limits forwardable is : Bool) (more : List (List ℕ))
    → words_behind (said limits forwardable false 0) (word_if is (codes "proxiable") ++ more) ≡ words_behind (said limits forwardable is 0) more
unfolding next_words
proxy-step limits forwardable true more = refl
proxy-step limits forwardable false more = refl

life-read : (limits forwardable proxiable : Bool) (life : ℕ) (more : List (List ℕ)) → 1 ≤ life → life ≤ 31536000
    → words_behind (said limits forwardable proxiable 0) (renewable_word life ∷ more) ≡ words_behind (said limits forwardable proxiable life) more
unfolding next_words
life-read limits forwardable proxiable life more from_one few =
    rw (decimal-read life (omega arith), le-leb 1 life from_one, le-leb life 31536000 few) refl

life-step : (limits forwardable proxiable : Bool) (life : ℕ) (more : List (List ℕ)) → life ≤ 31536000
    → words_behind (said limits forwardable proxiable 0) (word_if (nat_lt 0 life) (renewable_word life) ++ more) ≡ words_behind (said limits forwardable proxiable life) more
life-step limits forwardable proxiable life more few = by (nat_lt 0 life) refl
  where
    by : (is : Bool) → nat_lt 0 life ≡ is
        → words_behind (said limits forwardable proxiable 0) (word_if is (renewable_word life) ++ more) ≡ words_behind (said limits forwardable proxiable life) more
    by true e = let over : 0 < life = ltb-true 0 life e in life-read limits forwardable proxiable life more (omega arith) few
    by false e =
        let none : 0 ≡ life = grind (arith, nat_tests) in
        ap (λ (n : ℕ). words_behind (said limits forwardable proxiable n) more) none

abbrev pub says : Policy → Bool → Bool → Words
says policy guards is = record { policy = policy; guards_passwords = guards; is_certified = is }

guard-step : (limits forwardable proxiable : Bool) (life : ℕ) (is : Bool) (more : List (List ℕ))
    → words_behind (said limits forwardable proxiable life) (word_if is (codes "guards-passwords") ++ more) ≡ words_behind (agreed limits forwardable proxiable life is false false) more
unfolding next_words
guard-step limits forwardable proxiable life true more = refl
guard-step limits forwardable proxiable life false more = refl

agility-step : (limits forwardable proxiable : Bool) (life : ℕ) (guards is : Bool) (more : List (List ℕ))
    → words_behind (agreed limits forwardable proxiable life guards false false) (word_if is (codes "pkinit-agility") ++ more)
    ≡ words_behind (agreed limits forwardable proxiable life guards is false) more
unfolding next_words
agility-step limits forwardable proxiable life guards true more = refl
agility-step limits forwardable proxiable life guards false more = refl

sha1-step : (limits forwardable proxiable : Bool) (life : ℕ) (guards agile is : Bool) (more : List (List ℕ))
    → words_behind (agreed limits forwardable proxiable life guards agile false) (word_if is (codes "pkinit-sha1") ++ more)
    ≡ words_behind (agreed limits forwardable proxiable life guards agile is) more
unfolding next_words
sha1-step limits forwardable proxiable life guards agile true more = refl
sha1-step limits forwardable proxiable life guards agile false more = refl

certify-step : (policy : Policy) (guards is : Bool) → words_behind (says policy guards false) (from_pkinit is) ≡ Ok (says policy guards is)
unfolding next_words
certify-step policy guards true = refl
certify-step policy guards false = refl

words-again : (policy : Policy) (guards is : Bool) → policy.renewable_life ≤ 31536000 → words_behind no_words (words_of policy guards is) ≡ Ok (says policy guards is)
words-again policy guards is few =
    limits-step policy.limits_des3 (from_forwardable policy guards is)
    ∙ forward-step policy.limits_des3 policy.forwardable (from_proxiable policy guards is)
    ∙ proxy-step policy.limits_des3 policy.forwardable policy.proxiable (from_renewable policy guards is)
    ∙ life-step policy.limits_des3 policy.forwardable policy.proxiable policy.renewable_life (from_guarding policy guards is) few
    ∙ guard-step policy.limits_des3 policy.forwardable policy.proxiable policy.renewable_life guards (from_agility policy is)
    ∙ agility-step policy.limits_des3 policy.forwardable policy.proxiable policy.renewable_life guards policy.pkinit_agility (from_sha1 policy is)
    ∙ sha1-step policy.limits_des3 policy.forwardable policy.proxiable policy.renewable_life guards policy.pkinit_agility policy.pkinit_sha1 (from_pkinit is)
    ∙ certify-step policy guards is

-- a text of words is read as them, and there is no text where nothing is set
pub words-read : (policy : Policy) (guards is : Bool) (c : ℕ) (text : List ℕ) → policy.renewable_life ≤ 31536000 → words_text policy guards is ≡ c ∷ text
    → words_in (c ∷ text) ≡ Ok (says policy guards is)
unfolding words_in
words-read policy guards is c text few written =
    let are : slice_split is_comma (c ∷ text) ≡ words_of policy guards is = subst (λ (it : List ℕ). AreIn it (words_of policy guards is)) written (words-in policy guards is few) in
    ap (words_behind no_words) are ∙ words-again policy guards is few

abbrev read_as : Words → Result Words LineFault
read_as words = Ok words

same-words : (one other : Words) → read_as one ≡ read_as other → one ≡ other
same-words one other same = cc

pub no-words : (policy : Policy) (guards is : Bool) → policy.renewable_life ≤ 31536000 → words_text policy guards is ≡ [] → no_words ≡ says policy guards is
no-words policy guards is few written =
    let none : words_of policy guards is ≡ [] = subst (λ (it : List ℕ). AreIn it (words_of policy guards is)) written (words-in policy guards is few) in
    same-words no_words (says policy guards is) (sym (ap (words_behind no_words) none) ∙ words-again policy guards is few)
