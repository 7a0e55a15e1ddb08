-- RPC_UNICODE_STRING (MS-DTYP, section 2.3.10).
use Rattle.std.specs.Prelude.{ℕ, ◌+◌, ◌/◌, ◌%◌, nat_eq, nat_lt, Bool, not, ◌&&◌, ◌||◌, List, [], Result, Ok, Err, if◌then◌else◌}
use Rattle.byte_streams.specs.Numbers.{le32_at}
use Rattle.krb_pac.specs.declared.error.PacFault.{PacFault}
use Rattle.krb_pac.specs.declared.error.PacFault.TheVariants.{Lengths}
use Rattle.krb_pac.specs.declared.ndr.texts.TextHead.{TextHead}
use Rattle.krb_pac.specs.Numbers.{le16_at, u16_at}
use Rattle.krb_pac.specs.Arrays.{count_at, each_at}
use Rattle.krb_pac.specs.Reading.{◌>>=◌}

-- Length, MaximumLength, and whether the pointer has a referent.
unfoldable pub text_head : ℕ → List ℕ → TextHead
text_head place whole = record {
  length = le16_at place whole;
  maximum_length = le16_at (place + 2) whole;
  is_set = not (nat_eq (le32_at (place + 4) whole) 0);
}

-- Length and MaximumLength are even, Length is at most MaximumLength, and MaximumLength is 0 where the pointer is null (MS-DTYP, section
-- 2.3.10). Test: `refused Lengths` of `pac.txt`.
unfoldable pub has_lengths : TextHead → Bool
has_lengths head =
    nat_eq (head.length % 2) 0 && nat_eq (head.maximum_length % 2) 0 && not (nat_lt head.maximum_length head.length)
    && (head.is_set || nat_eq head.maximum_length 0)

-- A conformant and varying array of numbers of two octets: its maximum count, the offset 0, its actual count, and the numbers. Both
-- counts
-- have to be these.
unfoldable pub varying_at : ℕ → ℕ → ℕ → List ℕ → Result (List ℕ × ℕ) PacFault
varying_at maximum actual place whole = do
  offset ← count_at maximum place whole
  count ← count_at 0 offset whole
  begin ← count_at actual count whole
  each_at u16_at actual begin whole

-- The characters of a string with this structure, and the place behind them: a conformant and varying array where the pointer has a
-- referent, and none otherwise.
unfoldable pub characters_at : TextHead → ℕ → List ℕ → Result (List ℕ × ℕ) PacFault
characters_at head place whole = if head.is_set then varying_at (head.maximum_length / 2) (head.length / 2) place whole else Ok ([], place)

-- The characters at a place of the string whose structure is at `head`, where its lengths fit.
unfoldable pub text_at : ℕ → ℕ → List ℕ → Result (List ℕ × ℕ) PacFault
text_at head place whole = if has_lengths (text_head head whole) then characters_at (text_head head whole) place whole else Err Lengths
