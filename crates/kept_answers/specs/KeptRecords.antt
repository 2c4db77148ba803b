-- Where the parts of a record lie.
use Rattle.std.specs.Prelude.{ℕ, ◌+◌, ◌-◌, min, cond, List, length, take, drop, ◌==◌}
use Rattle.words.specs.Words.{word_at, double_at}
use Rattle.objects.specs.declared.surface.Surface.{Surface}

-- where a list of so many bytes ends that starts at place `at`; the end of all where there are fewer
abbrev pub list_end : List ℕ → ℕ → ℕ → ℕ
list_end l at size = min (at + size) (length l)

-- the bytes from one place up to another
abbrev pub part : List ℕ → ℕ → ℕ → List ℕ
part l from to = take (to - from) (drop from l)

-- where the record that starts at place `at` of a block ends: its second word is its size. One without a size ends with the block.
unfoldable pub record_end : List ℕ → ℕ → ℕ
record_end block at = let size = word_at (part block at (length block)) 1 in cond (size == 0) (length block) (list_end block at size)

-- a surface from the k-th word on
unfoldable pub surface_at : List ℕ → ℕ → Surface
surface_at l k = record {
  tilt = double_at l k;
  orientation = double_at l (k + 1);
  base_height = double_at l (k + 2);
  height = double_at l (k + 3);
  width = double_at l (k + 4);
}
