-- How many bytes of an input were kept, whether it was read to its end or not.
use Rattle.std.specs.Prelude.{ℕ, Result, Ok, Err}
use Rattle.streams.specs.declared.Unread.{Unread}

abbrev pub kept : Result ℕ Unread → ℕ
kept (Ok count) = count
kept (Err unread) = unread.count
