use Rattle.city_doc.proofs.document.read.read_city_by.Goals as goal

pub or_of_tree-requires : goal.or_of_tree-requires
or_of_tree-requires g c = c.lawful_city_by-city.ensures
