-- How the code works on many bits at once. No call's promise cites what stands here.
use Rattle.std.specs.Prelude.{ℕ, Bool, List, [], ◌∷◌}
use Rattle.bits.specs.Bits.{bits}
use Rattle.zeros.specs.Zeros.{stuff}
use Rattle.line.specs.Line.{flag, opens, ends}
use Rattle.line.specs.declared.Sought.{Sought}
use Rattle.line.specs.declared.Sought.TheVariants.{Opening, End}

-- what is sought: a flag that opens, or what ends a stretch
abbrev pub sought : Sought → List Bool → Bool
sought Opening = opens
sought End = ends

-- what a frame's bits are sent as
abbrev pub sent_as : List ℕ → List Bool
sent_as f = stuff 4 (bits f)

-- what stands on a line before a frame's bits: on an empty one, an opening flag
abbrev pub opened : List Bool → List Bool
opened [] = flag
opened (b ∷ line) = b ∷ line
