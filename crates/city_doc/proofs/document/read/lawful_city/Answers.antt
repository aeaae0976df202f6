use Rattle.city_doc.proofs.document.RelatedCities.{admitted}
use Rattle.city_doc.proofs.document.read.lawful_city.Goals as goal

pub returns : goal.returns
returns c = admitted c.args.bytes.now c.in_ok-city.city c.in_ok-city.ensures c.related.result c.related.ensures
