-- The number and the name of each refusal, as users read them.
use Rattle.std.specs.Prelude.{ℕ, List, codes}
use Rattle.kv_keys.specs.declared.error.KvError.{KvError}
use Rattle.kv_keys.specs.declared.error.KvError.TheVariants.{OutOfMemory, BadBucket, BadConfig, BadKey, BadFilter, OptionsClash, ValueTooLarge, Sealed, JournalFull, KeyExists, WrongLastRevision, KeyNotFound, NoSuchWatch, TooManyWatches, NoReader, BadCommand, ReadFault, WriteFault, BadFloor, WatchBehind, Lagged}

abbrev pub code_of : KvError → ℕ
code_of OutOfMemory = 1
code_of BadBucket = 2
code_of BadConfig = 3
code_of BadKey = 4
code_of BadFilter = 5
code_of OptionsClash = 6
code_of ValueTooLarge = 7
code_of Sealed = 8
code_of JournalFull = 9
code_of KeyExists = 10
code_of (WrongLastRevision last) = 11
code_of KeyNotFound = 12
code_of NoSuchWatch = 13
code_of TooManyWatches = 14
code_of NoReader = 15
code_of BadCommand = 16
code_of ReadFault = 17
code_of WriteFault = 18
code_of BadFloor = 19
code_of (WatchBehind watch) = 20
code_of (Lagged floor) = 21

abbrev pub name_of : KvError → List ℕ
name_of OutOfMemory = codes "OutOfMemory"
name_of BadBucket = codes "BadBucket"
name_of BadConfig = codes "BadConfig"
name_of BadKey = codes "BadKey"
name_of BadFilter = codes "BadFilter"
name_of OptionsClash = codes "OptionsClash"
name_of ValueTooLarge = codes "ValueTooLarge"
name_of Sealed = codes "Sealed"
name_of JournalFull = codes "JournalFull"
name_of KeyExists = codes "KeyExists"
name_of (WrongLastRevision last) = codes "WrongLastRevision"
name_of KeyNotFound = codes "KeyNotFound"
name_of NoSuchWatch = codes "NoSuchWatch"
name_of TooManyWatches = codes "TooManyWatches"
name_of NoReader = codes "NoReader"
name_of BadCommand = codes "BadCommand"
name_of ReadFault = codes "ReadFault"
name_of WriteFault = codes "WriteFault"
name_of BadFloor = codes "BadFloor"
name_of (WatchBehind watch) = codes "WatchBehind"
name_of (Lagged floor) = codes "Lagged"
