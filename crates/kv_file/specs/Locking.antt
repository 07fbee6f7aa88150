-- Why a file of the system was not opened, by why it was not locked.
use Rattle.std.specs.declared.fs.locks.TryLockError.{TryLockError}
use Rattle.std.specs.declared.fs.locks.TryLockError.TheVariants.{WouldBlock, Error}
use Rattle.kv_file.specs.declared.system.OpenFault.{OpenFault}
use Rattle.kv_file.specs.declared.system.OpenFault.TheVariants.{Busy, Failed}

abbrev pub lock_fault : TryLockError → OpenFault
lock_fault WouldBlock = Busy
lock_fault (Error error) = Failed
