-- The faults of a crew as faults of its run.
use Rattle.city_desk.specs.declared.fault.RunFault.{RunFault}
use Rattle.city_board.specs.declared.board.BoardFault.{BoardFault}
use Rattle.city_crew.specs.declared.fault.CrewFault.{CrewFault}

abbrev pub fault_of_crew : CrewFault → RunFault
fault_of_crew CrewFault.OutOfMemory = RunFault.OutOfMemory
fault_of_crew CrewFault.NoPlace = RunFault.NoPlace
fault_of_crew CrewFault.Unfinished = RunFault.Unfinished
fault_of_crew CrewFault.Mixed = RunFault.Mixed

abbrev pub fault_of_board : BoardFault → CrewFault
fault_of_board BoardFault.OutOfMemory = CrewFault.OutOfMemory
fault_of_board BoardFault.NoPlace = CrewFault.NoPlace
