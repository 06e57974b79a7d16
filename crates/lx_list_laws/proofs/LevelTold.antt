-- All that is said of levels.
use Rattle.lx_list_laws.specs.Levels.{LevelsComeAndGo}
use Rattle.lx_list_laws.proofs.LevelAlone.{alone_and_back}
use Rattle.lx_list_laws.proofs.LevelBeside.{behind_and_back, ahead_and_back}
use Rattle.lx_list_laws.proofs.LevelCommands.{commands_go}

pub told-levels : LevelsComeAndGo
told-levels = record {
  alone = alone_and_back;
  behind = behind_and_back;
  ahead = ahead_and_back;
  commands = commands_go;
}
