-- A word as sixteen upper-case hexadecimal digits, highest first, in a list of bytes.
use Rattle.std.specs.Prelude.{cond, ◌&&◌, List, [], ◌∷◌, ℕ, zero, suc, ◌+◌, ◌-◌, ◌*◌, ◌/◌, ◌%◌, ◌^◌, leb, ltb, length, take, drop, Option, Some, None}
use Rattle.std.specs.Option.{option_and_then}
use Rattle.std.proofs.lemmas.List.Edits.{sets}

-- the ASCII byte of a digit below 16: '0' is 48, 'A' is 65
unfoldable pub digit : ℕ → ℕ
digit d = cond (ltb d 10) (48 + d) (55 + d)

-- the n lowest digits of w, highest first
unfoldable pub digits : ℕ → ℕ → List ℕ
digits zero w = []
digits (suc n) w = digit (w / 16 ^ n % 16) ∷ digits n w

unfoldable pub digits_of : ℕ → List ℕ
digits_of w = digits 16 w

-- l with the digits of w from place i on, and l itself where fewer than sixteen bytes stand there
unfoldable pub put_digits : List ℕ → ℕ → ℕ → List ℕ
put_digits l i w = cond (leb (i + 16) (length l)) (sets l i (digits_of w)) l

-- what the byte b counts as a digit
unfoldable pub digit_value : ℕ → Option ℕ
digit_value b = cond (leb 48 b && leb b 57) (Some (b - 48)) (cond (leb 65 b && leb b 70) (Some (b - 55)) None)

-- what digits count, behind others that count v
unfoldable pub read_digits : ℕ → List ℕ → Option ℕ
read_digits v [] = Some v
read_digits v (b ∷ rest) = option_and_then (λ (d : ℕ). read_digits (16 * v + d) rest) (digit_value b)

-- the word whose sixteen digits stand in l from place i on
unfoldable pub digits_at : List ℕ → ℕ → Option ℕ
digits_at l i = cond (leb (i + 16) (length l)) (read_digits 0 (take 16 (drop i l))) None
