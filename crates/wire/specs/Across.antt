-- Request A4 joined to the layers above: voice frames that origins make, sent over a line and heard at its other end.
use Rattle.std.specs.Prelude.{ℕ, ◌+◌, List, [], map, length}
use Rattle.endpoint.specs.Read.{Heard}
use Rattle.endpoint.specs.Read.{read_answer}
use Rattle.chain.specs.Chain.{Origin, sent, what_is_heard}
use Rattle.wire.specs.Wire.{buffer_after, count_after, Call, calls}

-- what calls of `origin::send` sent is added to a line begun empty, and taken off it by one call of `next` for each and n more
abbrev pub crossed : List Origin → ℕ → List ℕ → List ℕ → List Call
crossed os n buffer out = calls (length os + n) (buffer_after buffer 0 (map sent os)) (count_after buffer 0 (map sent os)) 0 out

-- what the voice reader answers to the octets of a call of `next`
abbrev pub hears : Call → Heard
hears c = read_answer c.heard

-- the samples that `origin::send` was given, at the width that it left them: no node is on the way
abbrev pub given : Origin → Heard
given o = what_is_heard o []
