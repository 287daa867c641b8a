-- The names of commands (Redis commands reference: names are case-insensitive).
use Rattle.std.specs.Prelude.{◌≡◌, ℕ, List, codes, map}
use Rattle.std.specs.Char.{to_ascii_lowercase}
use Rattle.lsm_serve.specs.declared.command.Command.{Command}
use Rattle.lsm_serve.specs.declared.command.Command.TheVariants as command

-- the name of a command, in lower case
abbrev pub command_name : Command → List ℕ
command_name command.Ping = codes "ping"
command_name command.Echo = codes "echo"
command_name command.Set = codes "set"
command_name command.Get = codes "get"
command_name command.Delete = codes "del"
command_name command.Exists = codes "exists"
command_name command.MultiGet = codes "mget"
command_name command.MultiSet = codes "mset"
command_name command.Range = codes "range"
command_name command.Save = codes "save"
command_name command.Info = codes "info"
command_name command.Describe = codes "command"
command_name command.Config = codes "config"
command_name command.Select = codes "select"
command_name command.Quit = codes "quit"

-- the name is that of the command, in either case
abbrev pub IsCalled : List ℕ → Command → Type 0
IsCalled name which = map to_ascii_lowercase name ≡ map to_ascii_lowercase (command_name which)

-- no command has this name
abbrev pub IsNoCommand : List ℕ → Type 0
IsNoCommand name = (which : Command) → IsCalled name which → ⊥
