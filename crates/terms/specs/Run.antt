-- Document 01, "What is built": a run is named by a line and a trip number.
use Rattle.std.specs.Prelude.{ℕ, Bool, ◌||◌, ◌&&◌, eqb, ltb}
use Rattle.terms.specs.declared.run.Run.{Run}

-- a line is 1 to 65,535; every trip number is an ordinary one
abbrev pub line_most : ℕ
line_most = 65535

-- a bad name has line 0 or a line above 65,535
unfoldable pub bad_name : Run → Bool
bad_name r = eqb r.line 0 || ltb line_most r.line

-- two names are the same run where line and trip number agree
unfoldable pub same_run : Run → Run → Bool
same_run p q = eqb p.line q.line && eqb p.trip q.trip

-- what stands where there is no run
abbrev pub no_run : Run
no_run = record { line = 0; trip = 0 }
