-- The words of a line.
use Rattle.std.specs.Prelude.{ℕ, ◌==◌, List, [], Option, slice_get}
use Rattle.std.specs.List.{slice_split}
use Rattle.std.specs.Option.{option_map_or}
use Rattle.script.specs.declared.words.Words.{Words}

-- the words of a line, cut at each space: an empty one where two spaces stand together
abbrev pub words : List ℕ → List (List ℕ)
words line = slice_split (λ b. b == 32) line

-- the words that are left
abbrev pub left : Words → List (List ℕ)
left w = option_map_or (λ r. words r.now) w.rest []

-- the next one
abbrev pub next : Words → Option (List ℕ)
next w = slice_get (left w) 0
