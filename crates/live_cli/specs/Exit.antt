-- The numbers with which the program ends.
use Rattle.std.specs.Prelude.{ℕ}
use Rattle.live_cli.specs.declared.status.Status.{Status}
use Rattle.live_cli.specs.declared.status.Status.TheVariants as status

abbrev pub exit_code : Status → ℕ
exit_code status.Done = 0
exit_code status.Usage = 1
exit_code status.Refused = 2
exit_code status.BadScript = 3
exit_code status.ReadFault = 4
exit_code status.WriteFault = 5
exit_code status.OutOfMemory = 6
