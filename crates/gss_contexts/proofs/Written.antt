-- What is written is a token of its message.
use Rattle.std.proofs.Common.{◌≡◌, ℕ, ◌+◌, ◌^◌, ◌<◌, List, [], ◌∷◌, ◌++◌, length, take, drop, false, true, refl, ap, sym, subst, ◌∙◌, arith}
use Rattle.std.proofs.lemmas.List.{take_at, drop-drop, length-drop, take-append-drop, nil_from_length, append-nil}
use Rattle.byte_streams.specs.Parts.{IsLaidOut}
use Rattle.byte_streams.specs.Numbers.{be16, be64}
use Rattle.krb_crypto.specs.Sealing.{IsSealedBy}
use Rattle.gss_contexts.specs.MessageTokens.{IsWrapToken, mic_header, wrap_header}
use Rattle.gss_contexts.proofs.MessageTokenLaws.{mic-of_header, wrap-of_header}
use Rattle.gss_contexts.specs.Tokens.{Carries, IsMarked, IsSealedText, IsSummedText, WritesMic, WritesWrap, header_without_counts, header_without_rrc, is_sealed, rotated_right, seal_usage, sign_usage, sum_of}
use Rattle.gss_contexts.specs.declared.sender.Sender.{Sender}
use Rattle.gss_contexts.specs.declared.side.Protection.{Protection}
use Rattle.gss_contexts.proofs.Rotated.{rotated_none}

pub mic_written : (s : Sender) (number flags usage : ℕ) (message header sum : List ℕ) → IsMarked s false flags → flags < 8
    → IsLaidOut (mic_header (record { flags = flags; seq_num = number; checksum = [] })) header → length header ≡ 16
    → usage ≡ sign_usage s.side → sum ≡ sum_of s.key usage (message ++ header) → WritesMic s number message (header ++ sum)
mic_written s number flags usage message header sum marked clear laid size used is_sum =
    let token = mic-of_header (record { flags = flags; seq_num = number; checksum = sum }) header size laid in
    record {
      made = record {
        flags = flags;
        marked = marked;
        laid = record {
          header = token.header;
          long = token.long;
          checksum = token.checksum ∙ is_sum ∙ ap (λ n. sum_of s.key n (message ++ header)) used
              ∙ ap (λ (h : List ℕ). sum_of s.key (sign_usage s.side) (message ++ h)) (sym (take_at header sum 16 size));
        };
      };
      clear = clear;
    }

-- the octets of a header
abbrev pub header_of : ℕ → ℕ → ℕ → ℕ → List ℕ
header_of flags ec rrc number = 5 ∷ 4 ∷ flags ∷ 255 ∷ (be16 ec ++ (be16 rrc ++ be64 number))

cut : (place size next : ℕ) (l part : List ℕ) → place + size ≡ next → take size (drop place l) ≡ part → drop place l ≡ part ++ drop next l
cut place size next l part is stands =
    sym (take-append-drop size (drop place l)) ∙ ap (λ (x : List ℕ). x ++ drop size (drop place l)) stands
    ∙ ap (λ (x : List ℕ). part ++ x) (drop-drop size place l ∙ ap (λ n. drop n l) is)

header_is : (flags ec rrc number : ℕ) (whole : List ℕ)
    → IsLaidOut (wrap_header (record { flags = flags; ec = ec; rrc = rrc; seq_num = number; checksum = [] })) whole
    → whole ≡ header_of flags ec rrc number ++ drop 16 whole
unfolding be16 be64
header_is flags ec rrc number whole laid =
    cut 0 2 2 whole _ refl laid.0 ∙ ap (λ (l : List ℕ). 5 ∷ 4 ∷ l) (cut 2 1 3 whole _ refl laid.1.0
    ∙ ap (λ (l : List ℕ). flags ∷ l) (cut 3 1 4 whole _ refl laid.1.1.0
    ∙ ap (λ (l : List ℕ). 255 ∷ l) (cut 4 2 6 whole _ refl laid.1.1.1.0
    ∙ ap (λ (l : List ℕ). be16 ec ++ l) (cut 6 2 8 whole _ refl laid.1.1.1.1.0
    ∙ ap (λ (l : List ℕ). be16 rrc ++ l) (cut 8 8 16 whole _ refl laid.1.1.1.1.1.0)))))

kept_rrc : (flags ec number : ℕ) (text : List ℕ) → header_without_rrc (header_of flags ec 0 number ++ text) ≡ header_of flags ec 0 number
unfolding be16 be64
kept_rrc flags ec number text = refl

kept_counts : (flags ec number : ℕ) (text : List ℕ) → header_without_counts (header_of flags ec 0 number ++ text) ≡ header_of flags 0 0 number
unfolding be16 be64
kept_counts flags ec number text = refl

-- a header that is written, by its octets
whole_header : (flags ec number : ℕ) (header : List ℕ) → length header ≡ 16
    → IsLaidOut (wrap_header (record { flags = flags; ec = ec; rrc = 0; seq_num = number; checksum = [] })) header → header ≡ header_of flags ec 0 number
whole_header flags ec number header size laid =
    header_is flags ec 0 number header laid ∙ ap (λ (l : List ℕ). header_of flags ec 0 number ++ l) (nil_from_length (drop 16 header) (omega (arith, length-drop 16 header)))
    ∙ append-nil (header_of flags ec 0 number)

module _ (s : Sender) (number flags ec : ℕ) (message header text : List ℕ) (size : length header ≡ 16)
    (laid : IsLaidOut (wrap_header (record { flags = flags; ec = ec; rrc = 0; seq_num = number; checksum = [] })) header) where
  is_header : header ≡ header_of flags ec 0 number
  is_header = whole_header flags ec number header size laid

  without_rrc : header_without_rrc (header ++ text) ≡ header
  without_rrc = ap (λ (h : List ℕ). header_without_rrc (h ++ text)) is_header ∙ kept_rrc flags ec number text ∙ sym is_header

  without_counts : (bare : List ℕ) → length bare ≡ 16 → IsLaidOut (wrap_header (record { flags = flags; ec = 0; rrc = 0; seq_num = number; checksum = [] })) bare
      → header_without_counts (header ++ text) ≡ bare
  without_counts bare bare_size bare_laid =
      ap (λ (h : List ℕ). header_without_counts (h ++ text)) is_header ∙ kept_counts flags ec number text ∙ sym (whole_header flags 0 number bare bare_size bare_laid)

  -- the token, which isn't rotated
  laid_token : IsWrapToken (record { flags = flags; ec = ec; rrc = 0; seq_num = number; checksum = rotated_right 0 text }) (header ++ text)
  laid_token =
      let token = wrap-of_header (record { flags = flags; ec = ec; rrc = 0; seq_num = number; checksum = text }) header size laid in
      record { header = token.header; long = token.long; checksum = token.checksum ∙ sym (rotated_none text) }

  pub wrap_written : (p : Protection) (d : List ℕ) → IsMarked s (is_sealed p) flags → flags < 8 → ec < 2 ^ 16 → (is_sealed p ≡ true → ec ≡ 0)
      → Carries s p ec d message (header ++ text) text → WritesWrap s number p d message (header ++ text)
  wrap_written p d marked clear fits unfilled carries = record {
    made = record {
      flags = flags;
      marked = marked;
      ec = ec;
      ec_fits = fits;
      rrc = 0;
      rrc_fits = omega arith;
      text = text;
      carries = carries;
      laid = laid_token;
    };
    clear = clear;
    in_place = refl;
    unfilled = unfilled;
  }

  pub sealed_carries : (usage : ℕ) (d plain : List ℕ) → usage ≡ seal_usage s.side → plain ≡ message ++ header → ec ≡ 0
      → IsSealedBy s.key.suite s.key.bytes usage d plain text → IsSealedText s ec d message (header ++ text) text
  sealed_carries usage d plain used is_plain none sealed = record {
    filler = [];
    counted = sym none;
    sealed = subst (λ (p : List ℕ). IsSealedBy s.key.suite s.key.bytes (seal_usage s.side) d p text) (is_plain ∙ ap (λ (h : List ℕ). message ++ h) (sym without_rrc))
        (subst (λ (n : ℕ). IsSealedBy s.key.suite s.key.bytes n d plain text) used sealed);
  }

  pub summed_carries : (usage : ℕ) (bare sum : List ℕ) → length bare ≡ 16
      → IsLaidOut (wrap_header (record { flags = flags; ec = 0; rrc = 0; seq_num = number; checksum = [] })) bare
      → usage ≡ seal_usage s.side → sum ≡ sum_of s.key usage (message ++ bare) → length sum ≡ ec → text ≡ message ++ sum
      → IsSummedText s ec message (header ++ text) text
  summed_carries usage bare sum bare_size bare_laid used is_sum counted carried = record {
    sum = sum;
    is_sum = is_sum ∙ ap (λ n. sum_of s.key n (message ++ bare)) used
        ∙ ap (λ (h : List ℕ). sum_of s.key (seal_usage s.side) (message ++ h)) (sym (without_counts bare bare_size bare_laid));
    counted = counted;
    carried = carried;
  }
