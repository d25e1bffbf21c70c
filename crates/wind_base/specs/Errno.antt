-- The error numbers of the kernel's calls: this project's own table.
use Rattle.std.specs.Prelude.{ℕ, List, codes}
use Rattle.wind_base.specs.declared.errno.Errno.{Errno}
use Rattle.wind_base.specs.declared.errno.Errno.TheVariants as errnos

-- the number of an error
abbrev pub errno_number : Errno → ℕ
errno_number errnos.ObjIdError = 0x3d0001
errno_number errnos.ObjUnavailable = 0x3d0002
errno_number errnos.ObjDeleted = 0x3d0003
errno_number errnos.ObjTimeout = 0x3d0004
errno_number errnos.NotEnoughMemory = 0x110001
errno_number errnos.NotABlock = 0x110002
errno_number errnos.BadAlign = 0x110003
errno_number errnos.BadAddress = 0x110004
errno_number errnos.IllegalPriority = 0x30001
errno_number errnos.NotSafe = 0x30002
errno_number errnos.TooMany = 0x30003
errno_number errnos.IdsSpent = 0x30004
errno_number errnos.TaskNotFound = 0x30005
errno_number errnos.InvalidState = 0x160001
errno_number errnos.InvalidOption = 0x160002
errno_number errnos.InvalidOperation = 0x160003
errno_number errnos.CountOver = 0x160004
errno_number errnos.InvalidMsgLength = 0x410001
errno_number errnos.NonZeroTimeout = 0x410002
errno_number errnos.BadSize = 0x410003
errno_number errnos.NotIsrCallable = 0x430001
errno_number errnos.NotShell = 0x430002
errno_number errnos.SymbolsFull = 0x1c0001
errno_number errnos.BadKind = 0x1c0002
errno_number errnos.LoadFailed = 0x1d0001
errno_number errnos.NoSuchModule = 0x1d0002

-- the name of an error
abbrev pub errno_name : Errno → List ℕ
errno_name errnos.ObjIdError = codes "OBJ_ID_ERROR"
errno_name errnos.ObjUnavailable = codes "OBJ_UNAVAILABLE"
errno_name errnos.ObjDeleted = codes "OBJ_DELETED"
errno_name errnos.ObjTimeout = codes "OBJ_TIMEOUT"
errno_name errnos.NotEnoughMemory = codes "NOT_ENOUGH_MEMORY"
errno_name errnos.NotABlock = codes "NOT_A_BLOCK"
errno_name errnos.BadAlign = codes "BAD_ALIGN"
errno_name errnos.BadAddress = codes "BAD_ADDRESS"
errno_name errnos.IllegalPriority = codes "ILLEGAL_PRIORITY"
errno_name errnos.NotSafe = codes "NOT_SAFE"
errno_name errnos.TooMany = codes "TOO_MANY"
errno_name errnos.IdsSpent = codes "IDS_SPENT"
errno_name errnos.TaskNotFound = codes "TASK_NOT_FOUND"
errno_name errnos.InvalidState = codes "INVALID_STATE"
errno_name errnos.InvalidOption = codes "INVALID_OPTION"
errno_name errnos.InvalidOperation = codes "INVALID_OPERATION"
errno_name errnos.CountOver = codes "COUNT_OVER"
errno_name errnos.InvalidMsgLength = codes "INVALID_MSG_LENGTH"
errno_name errnos.NonZeroTimeout = codes "NON_ZERO_TIMEOUT"
errno_name errnos.BadSize = codes "BAD_SIZE"
errno_name errnos.NotIsrCallable = codes "NOT_ISR_CALLABLE"
errno_name errnos.NotShell = codes "NOT_SHELL"
errno_name errnos.SymbolsFull = codes "SYMBOLS_FULL"
errno_name errnos.BadKind = codes "BAD_KIND"
errno_name errnos.LoadFailed = codes "LOAD_FAILED"
errno_name errnos.NoSuchModule = codes "NO_SUCH_MODULE"
