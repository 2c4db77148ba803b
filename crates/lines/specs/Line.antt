-- A line of the shade listing: ten values in, a number and a factor out.
use Rattle.std.specs.Prelude.{Err, Float, Ok, Result}
use Rattle.objects.specs.declared.answers.Refusal.{Refusal}
use Rattle.std.specs.Prelude.{Bool, cond, ◌&&◌, List, [], ◌∷◌, ◌++◌, ℕ, ◌+◌, ◌*◌, ◌/◌, ◌%◌, eqb, ltb, length, get_or, take, replicate, map, Float, Option, Some, None}
use Rattle.std.specs.Option.{is_some, unwrap_or}
use Rattle.std.specs.Float.{binary64}
use Rattle.std.specs.Float.Ieee.{of_bits, to_bits}
use Rattle.doubles.specs.Arithmetic.{whole}
use Rattle.words.specs.Words.{put_double}
use Rattle.hexadecimal.specs.Hexadecimal.{digit, digits_of, digits_at}
use Rattle.objects.specs.declared.answers.Refusal.TheVariants as refusal
use Rattle.objects.specs.declared.surface.Surface.{Surface}
use Rattle.std.specs.List.{list_all, range_with_len}
use Rattle.objects.specs.Refusals.{number_of}
use Rattle.shading.specs.Call.{factor_call}
use Rattle.text.specs.Text.{ascii}
use Rattle.lines.specs.declared.output.OutputLine.{OutputLine}

-- ---- the values

-- the k-th value takes sixteen digits, and a single space parts it from the next
unfoldable pub value_fine : List ℕ → ℕ → Bool
value_fine l k = is_some (digits_at l (17 * k))

unfoldable pub parted : List ℕ → ℕ → Bool
parted l k = eqb (get_or l (17 * k + 16) 0) 32

-- ten values and the nine spaces between them, 169 bytes in all
unfoldable pub line_fine : List ℕ → Bool
line_fine l = eqb (length l) 169 && (list_all (value_fine l) (range_with_len 0 10) && list_all (parted l) (range_with_len 0 9))

-- the double whose bits the k-th value's digits are
unfoldable pub value_at : List ℕ → ℕ → Float
value_at l k = of_bits binary64 (unwrap_or (digits_at l (17 * k)) 0)

-- all ten
unfoldable pub values : List ℕ → Option (List Float)
values l = cond (line_fine l) (Some (map (value_at l) (range_with_len 0 10))) None

-- ---- the answer

-- one sector from 0 to 360 degrees without an object
unfoldable pub whole_horizon : List ℕ
whole_horizon = put_double (replicate 216 0) 1 (whole 360)

-- one near obstacle: kind 0, height, distance, transparency
unfoldable pub one_obstacle : Float → Float → Float → List ℕ
one_obstacle height distance transparency = put_double (put_double (put_double (replicate 32 0) 1 height) 2 distance) 3 transparency

-- 12 before 3 and 4; the values in their order are altitude, azimuth, base, height, width, tilt, orientation, shade, distance,
-- transparency
unfoldable pub line_answer : List ℕ → Result Float Refusal
line_answer l =
    let surface : Surface = record {
      tilt = value_at l 5;
      orientation = value_at l 6;
      base_height = value_at l 2;
      height = value_at l 3;
      width = value_at l 4;
    } in
    cond (line_fine l) (factor_call 1 (value_at l 0) (value_at l 1) surface whole_horizon (one_obstacle (value_at l 7) (value_at l 8) (value_at l 9)))
    (Err refusal.Line)

-- ---- what is printed

-- a number below 100 in decimal digits
unfoldable pub numeral : ℕ → List ℕ
numeral n = cond (ltb n 10) (digit n ∷ []) (digit (n / 10) ∷ digit (n % 10) ∷ [])

-- 0 and the factor's digits, or the refusal's number and a dash
unfoldable pub output_line : Result Float Refusal → List ℕ
output_line (Ok x) = ascii "0 " ++ (digits_of (to_bits binary64 x) ++ ascii "\n")
output_line (Err r) = numeral (number_of r) ++ ascii " -\n"

-- the code's record: its first `count` bytes
abbrev pub bytes_of : OutputLine → List ℕ
bytes_of o = take o.count o.bytes
