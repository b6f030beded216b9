-- The statuses and the lines of refusals.
use Rattle.std.specs.Prelude.{ℕ, List, [], codes}
use Rattle.singular_text.specs.declared.faults.ReadFault.{ReadFault}
use Rattle.singular_text.specs.declared.faults.ReadFault.TheVariants as fault
use Rattle.singular_text.specs.declared.faults.Which.{Which}
use Rattle.singular_text.specs.declared.faults.Which.TheVariants as which
use Rattle.jacobian_pick.specs.declared.choosing.PickStop.{PickStop}
use Rattle.jacobian_pick.specs.declared.choosing.PickStop.TheVariants as stop
use Rattle.norm_core.specs.declared.refusals.Refusal.{Refusal}
use Rattle.norm_core.specs.declared.refusals.Refusal.TheVariants as refusal

abbrev pub usage_line : List ℕ
usage_line = codes "refused: usage\n"

abbrev pub bytes_line : List ℕ
bytes_line = codes "refused: limit bytes\n"

-- the line of a counted quantity that passes its limit
abbrev pub limit_line : Which → List ℕ
limit_line which.Variables = codes "refused: limit variables\n"
limit_line which.Generators = codes "refused: limit generators\n"
limit_line which.Points = codes "refused: limit points\n"
limit_line which.Nesting = codes "refused: limit nesting\n"
limit_line which.Digits = codes "refused: limit digits\n"
limit_line which.Size = codes "refused: limit size\n"

-- bytes that are no text of a problem within the limits; want of memory has no line
abbrev pub fault_line : ReadFault → List ℕ
fault_line fault.Syntax = codes "refused: syntax\n"
fault_line fault.Characteristic = codes "refused: characteristic\n"
fault_line (fault.Limit quantity) = limit_line quantity
fault_line fault.Memory = []

abbrev pub fault_status : ReadFault → ℕ
fault_status fault.Syntax = 3
fault_status fault.Characteristic = 4
fault_status (fault.Limit quantity) = 4
fault_status fault.Memory = 30

-- a problem that has no denominator
abbrev pub stop_line : PickStop → List ℕ
stop_line stop.Deep = codes "refused: deep ideal\n"
stop_line stop.Unit = codes "refused: unit ideal\n"
stop_line stop.DenominatorDeep = codes "refused: deep denominator\n"
stop_line stop.ZeroDivisor = codes "refused: zero divisor\n"
stop_line stop.Infinite = codes "refused: infinite\n"
stop_line stop.Wide = codes "refused: wide\n"
stop_line stop.NoDenominator = codes "refused: no denominator\n"
stop_line stop.Memory = []

abbrev pub stop_status : PickStop → ℕ
stop_status stop.Deep = 6
stop_status stop.Unit = 5
stop_status stop.DenominatorDeep = 6
stop_status stop.ZeroDivisor = 8
stop_status stop.Infinite = 9
stop_status stop.Wide = 9
stop_status stop.NoDenominator = 7
stop_status stop.Memory = 30

-- a failed read and want of memory have no line; that of a delta above the limit is kept whole
abbrev pub line_of : Refusal → List ℕ
line_of refusal.ReadFault = []
line_of refusal.LimitBytes = bytes_line
line_of (refusal.Text f) = fault_line f
line_of (refusal.Denominator s) = stop_line s
line_of (refusal.Delta line) = line
line_of refusal.Memory = []

abbrev pub status_of : Refusal → ℕ
status_of refusal.ReadFault = 20
status_of refusal.LimitBytes = 4
status_of (refusal.Text f) = fault_status f
status_of (refusal.Denominator s) = stop_status s
status_of (refusal.Delta line) = 10
status_of refusal.Memory = 30
