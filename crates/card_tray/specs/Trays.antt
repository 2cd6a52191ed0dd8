-- Request A8's call as a host makes it, on slices that it lends.
use Rattle.std.specs.Prelude.{ℕ, List, [], ◌∷◌}
use Rattle.tray.specs.Tray.{Forwarded}

-- the answer as numbers, in their order
abbrev pub forwarded_numbers : Forwarded → List ℕ
forwarded_numbers a = a.records ∷ a.written ∷ []
