-- A line that grows in its buffer, for the code.
use Rattle.std.specs.Prelude.{◌≡◌, ℕ, ◌+◌, ◌≤◌, List, length}
use Rattle.std.proofs.lemmas.List.Edits.{sets}
use Rattle.text.specs.declared.writing.Line.{Line}

-- the buffer has room for these bytes after the line
abbrev pub HasRoom : Line → List ℕ → Type 0
HasRoom line bytes = line.len + length bytes ≤ length line.buffer.now

-- the line is longer by these bytes, and lies in the same buffer
pub record Grown (was : Line) (bytes : List ℕ) (is : Line) : Type 0 where
  pub same_buffer : is.buffer.ghost_name ≡ was.buffer.ghost_name
  pub size : length is.buffer.now ≡ length was.buffer.now
  pub next : is.len ≡ was.len + length bytes
  pub after : is.buffer.now ≡ sets was.buffer.now was.len bytes
