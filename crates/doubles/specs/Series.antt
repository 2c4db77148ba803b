-- Horner's scheme: a series is worked out from its innermost bracket. From h, for n = count down to 1, h ← step n h.
use Rattle.std.specs.Prelude.{ℕ, zero, suc, Float}

unfoldable pub horner : (ℕ → Float → Float) → ℕ → Float → Float
horner step zero h = h
horner step (suc n) h = horner step n (step (suc n) h)
