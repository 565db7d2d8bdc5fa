-- `dayrun::day` is safe: what ran has at most one line for fifteen bytes. Assumes nothing.
use Rattle.dayrun.proofs.Days.{lines_within, words_within}
use native.Mathlib.Omega.{arith}
use Rattle.dayrun.proofs.day.Goals as goal

pub print_records-requires : goal.print_records-requires
print_records-requires g c = (lines_within _ _ _ _ c.run_day-ran.ensures, omega (arith, words_within _ _ _ _ c.run_day-ran.ensures c.requires, c.run_day-ran.auto.answers))
