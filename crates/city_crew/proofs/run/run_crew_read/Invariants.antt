use Rattle.city_crew.proofs.run.run_crew_read.Given as goal

-- the run begins with the given city and scripts
abbrev pub ghosts-run : goal.ghosts-run
ghosts-run g a = record { city = a.city; scripts = a.scripts }
