-- Request A10: what the endpoint's record counts.
use Rattle.std.specs.Prelude.{ℕ, ◌+◌, ◌-◌, ◌%◌, ◌^◌, min, cond, ◌==◌}

-- each count stops at 2^32-1
abbrev pub count_limit : ℕ
count_limit = 2 ^ 32 - 1

abbrev pub stopped : ℕ → ℕ
stopped n = min n count_limit

-- late counts refusal 17, and no other
abbrev pub late_after : ℕ → ℕ → ℕ
late_after n late = cond (n == 17) (stopped (late + 1)) late

-- the least number of unscheduled packets that RSEQ r and sequence s allow: s if r is 0; 1 if s is 0, for the lost stop; else the lesser of (s-r) modulo 15, where the burst went on, and s+1, where a new one began
unfoldable pub missing_between : ℕ → ℕ → ℕ
missing_between r s = cond (r == 0) s (cond (s == 0) 1 (min ((s + 15 - r) % 15) (s + 1)))
