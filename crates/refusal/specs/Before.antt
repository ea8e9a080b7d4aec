-- Which of two broken rules is named: that of the lower line, and there of the lower number.
use Rattle.std.specs.Prelude.{Bool, nat_lt, nat_eq, ◌&&◌, ◌||◌, if◌then◌else◌}
use Rattle.refusal.specs.declared.broken.Broken.{Broken}

abbrev pub is_before : Broken → Broken → Bool
is_before a b = nat_lt a.line b.line || (nat_eq a.line b.line && nat_lt a.number b.number)

abbrev pub earlier_of : Broken → Broken → Broken
earlier_of a b = if is_before b a then b else a
