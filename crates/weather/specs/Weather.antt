-- The three weather series at one index, which is the same for all three, and the ranges of their values.
use Rattle.std.specs.Prelude.{Bool, ◌&&◌, List, ℕ, ltb}
use Rattle.doubles.specs.Arithmetic.{whole}
use Rattle.doubles.specs.Ranges.{within}
use Rattle.words.specs.Words.{word_count, double_at}
use Rattle.weather.specs.declared.Reading.{Reading}

-- diffuse and direct 0..10,000 W/m², reflectivity 0..1
unfoldable pub reading_fine : Reading → Bool
unfolding within whole
reading_fine reading =
    within (whole 0) (whole 10000) reading.diffuse
    && within (whole 0) (whole 10000) reading.direct
    && within (whole 0) (whole 1) reading.reflectivity

-- the index is not past the end of any of them; a part word counts for nothing
unfoldable pub in_series : List ℕ → List ℕ → List ℕ → ℕ → Bool
in_series diffuse direct reflectivity i = ltb i (word_count diffuse) && ltb i (word_count direct) && ltb i (word_count reflectivity)

unfoldable pub read_series : List ℕ → List ℕ → List ℕ → ℕ → Reading
read_series diffuse direct reflectivity i = record { diffuse = double_at diffuse i; direct = double_at direct i; reflectivity = double_at reflectivity i }
